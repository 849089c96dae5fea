-- One more member of an object, and one more thing that it means.
use Rattle.std.proofs.Common.{ℕ, List, [], ◌∷◌, ◌++◌, string_bytes, inl, inr}
use Rattle.fr_cert.proofs.Terms.{Data, members_view, view, Entry, EachMember, InMembers, CertFault}

pub member_push : {A : Type 0} (M : List ℕ → Data → A → Type 0) (es : List Entry) (e : Entry) (xs : List A) (x : A) → EachMember M (members_view es) xs → M (string_bytes e.0) (view e.1) x
    → EachMember M (members_view (es ++ e ∷ [])) (xs ++ x ∷ [])
member_push M [] e [] x h p = (p, tt)
member_push M [] e (y ∷ xs) x h p = absurd h
member_push M (d ∷ es) e [] x h p = absurd h
member_push M (d ∷ es) e (y ∷ xs) x h p = (h.0, member_push M es e xs x h.1 p)

-- a fault in a member of the object is in the object
pub in_members : (F : List ℕ → Data → CertFault → Type 0) (front : List Entry) (e : Entry) (rest : List Entry) (f : CertFault) → F (string_bytes e.0) (view e.1) f → InMembers F (members_view (front ++ e ∷ rest)) f
in_members F [] e rest f h = inl h
in_members F (d ∷ front) e rest f h = inr (in_members F front e rest f h)
