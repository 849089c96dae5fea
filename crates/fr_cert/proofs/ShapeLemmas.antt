-- What is written has no float, and nests six deep at the most, so that its text is read again.
use Rattle.std.proofs.Common.{◌≡◌, ◌≤◌, ℕ, suc, max, ℤ, pos, negsuc, List, [], ◌∷◌, Bool, true, false, cond, Less, Equal, Greater, nat_cmp, codes, refl, arith}
use Rattle.fr_cert.proofs.Terms.{slice_cmp, match_ordering, Data, number, unsigned, string, array, object, Items, no_items, item, Members, no_members, member, put, depth, items_depth}
use Rattle.fr_cert.proofs.Terms.{members_depth, of_integer, max_depth, has_float, items_have_float, members_have_float, Program, VariableOf, ObjectOf, actor_at, object_at, variable_at, end_text}
use Rattle.fr_cert.proofs.Terms.{Claim, NotHeld, Alive, Gone, HeldTimes, Alternative, Note, Guard, Sole, ByMutex, InCritical, Turn, EndGuard, Certificate, key_text, Key, range_tree, is_declared}
use Rattle.fr_cert.proofs.Terms.{with_named, with_count, is_alive, is_gone, is_default, with_field, each_tree, note_tree, guard_tree, end_tree, version_of}
use Rattle.std.proofs.Math.Nat.{max-le, le-max_left, le-max_right}
use Rattle.std.proofs.lemmas.Bool.{or_parts, or_from}
use Rattle.fr_cert.specs.declared.key.Key.TheVariants as key
use Rattle.fr_cert.specs.Written.{with_each, names_where, alternative_tree, with_values, cert_tree}

-- no float, and nested so deep at the most
record IsPlain (b : ℕ) (d : Data) : Type 0 where
  floats : has_float d ≡ false
  deep : depth d ≤ b

record ArePlain (b : ℕ) (ms : Members) : Type 0 where
  floats : members_have_float ms ≡ false
  deep : members_depth ms ≤ b

record ItemsPlain (b : ℕ) (ds : Items) : Type 0 where
  floats : items_have_float ds ≡ false
  deep : items_depth ds ≤ b

left_most : (x y b : ℕ) → max x y ≤ b → x ≤ b
left_most x y b h = omega (arith, h, le-max_left x y)

right_most : (x y b : ℕ) → max x y ≤ b → y ≤ b
right_most x y b h = omega (arith, h, le-max_right x y)

-- ---- one member, one entry more

plain_member : (b : ℕ) (k : List ℕ) (d : Data) (ms : Members) → IsPlain b d → ArePlain b ms → ArePlain b (member k d ms)
plain_member b k d ms p q = record { floats = or_from (has_float d) (members_have_float ms) p.floats q.floats; deep = max-le p.deep q.deep }

plain_item : (b : ℕ) (d : Data) (ds : Items) → IsPlain b d → ItemsPlain b ds → ItemsPlain b (item d ds)
plain_item b d ds p q = record { floats = or_from (has_float d) (items_have_float ds) p.floats q.floats; deep = max-le p.deep q.deep }

no_more : (b : ℕ) → ArePlain b no_members
no_more b = record { floats = refl; deep = omega arith }

no_other : (b : ℕ) → ItemsPlain b no_items
no_other b = record { floats = refl; deep = omega arith }

plain_object : (b : ℕ) (ms : Members) → ArePlain b ms → IsPlain (suc b) (object ms)
plain_object b ms h = record { floats = h.floats; deep = omega (arith, h.deep) }

plain_array : (b : ℕ) (ds : Items) → ItemsPlain b ds → IsPlain (suc b) (array ds)
plain_array b ds h = record { floats = h.floats; deep = omega (arith, h.deep) }

plain_string : (b : ℕ) (s : List ℕ) → IsPlain b (string s)
plain_string b s = record { floats = refl; deep = omega arith }

plain_count : (b n : ℕ) → IsPlain b (number (unsigned n))
plain_count b n = record { floats = refl; deep = omega arith }

plain_integer : (b : ℕ) (z : ℤ) → IsPlain b (number (of_integer z))
plain_integer b (pos n) = record { floats = refl; deep = omega arith }
plain_integer b (negsuc n) = record { floats = refl; deep = omega arith }

plain_put : (b : ℕ) (k : List ℕ) (d : Data) (ms : Members) → IsPlain b d → ArePlain b ms → ArePlain b (put k d ms)
plain_put b k d no_members p q = plain_member b k d no_members p q
plain_put b k d (member l e ms) p q =
    let floats = or_parts (has_float e) (members_have_float ms) q.floats in
    let first : IsPlain b e = record { floats = floats.0; deep = left_most (depth e) (members_depth ms) b q.deep } in
    let rest : ArePlain b ms = record { floats = floats.1; deep = right_most (depth e) (members_depth ms) b q.deep } in
    elim (slice_cmp nat_cmp k l) as (λ o. ArePlain b (match_ordering o (member k d (member l e ms)) (member l d ms) (member l e (put k d ms)))) [
      | Less ↦ plain_member b k d (member l e ms) p q
      | Equal ↦ plain_member b l d ms p rest
      | Greater ↦ plain_member b l e (put k d ms) first (plain_put b k d ms p rest)
    ]

-- ---- notes

plain_range : (r : ℤ × ℤ) → IsPlain 1 (range_tree r)
plain_range r = plain_array 0 _ (plain_item 0 (number (of_integer r.0)) _ (plain_integer 0 r.0) (plain_item 0 (number (of_integer r.1)) no_items (plain_integer 0 r.1) (no_other 0)))

plain_named : (v : VariableOf) (r : ℤ × ℤ) (ms : Members) → ArePlain 1 ms → ArePlain 1 (with_named v r ms)
plain_named v r ms h = go (is_declared v r)
  where
    go : (b : Bool) → ArePlain 1 (cond b ms (put v.name (range_tree r) ms))
    go true = h
    go false = plain_put 1 v.name (range_tree r) ms (plain_range r) h

plain_each : {A B : Type 0} (b : ℕ) (f : A → B → Members → Members) → ((x : A) (y : B) (ms : Members) → ArePlain b ms → ArePlain b (f x y ms)) → (xs : List A) (ys : List B) (ms : Members) → ArePlain b ms → ArePlain b (with_each f xs ys ms)
unfolding with_each
plain_each b f one [] ys ms h = h
plain_each b f one (x ∷ xs) [] ms h = h
plain_each b f one (x ∷ xs) (y ∷ ys) ms h = plain_each b f one xs ys (f x y ms) (one x y ms h)

plain_with_count : (o : ObjectOf) (c : Claim) (ms : Members) → ArePlain 1 ms → ArePlain 1 (with_count o c ms)
plain_with_count o (HeldTimes count) ms h = plain_put 1 o.name (number (unsigned count)) ms (plain_count 1 count) h
plain_with_count o NotHeld ms h = h
plain_with_count o Alive ms h = h
plain_with_count o Gone ms h = h

plain_names : (test : Claim → Bool) (os : List ObjectOf) (cs : List Claim) → ItemsPlain 0 (names_where test os cs)
unfolding names_where
plain_names test [] cs = no_other 0
plain_names test (o ∷ os) [] = no_other 0
plain_names test (o ∷ os) (c ∷ cs) = go (test c) (plain_names test os cs)
  where
    go : (b : Bool) → ItemsPlain 0 (names_where test os cs) → ItemsPlain 0 (cond b (item (string o.name) (names_where test os cs)) (names_where test os cs))
    go true rest = plain_item 0 (string o.name) (names_where test os cs) (plain_string 0 o.name) rest
    go false rest = rest

plain_field : (b : ℕ) (k : Key) (d : Data) (ms : Members) → IsPlain b d → ArePlain b ms → ArePlain b (with_field k d ms)
plain_field b k d ms p h = go (is_default d)
  where
    go : (default : Bool) → ArePlain b (cond default ms (put (key_text k) d ms))
    go true = h
    go false = plain_put b (key_text k) d ms p h

plain_named_list : (P : Program) (n : Alternative) (test : Claim → Bool) → IsPlain 2 (array (names_where test P.objects n.claims))
plain_named_list P n test = let h = plain_names test P.objects n.claims in record { floats = h.floats; deep = omega (arith, h.deep) }

plain_alternative : (P : Program) (n : Alternative) → IsPlain 3 (alternative_tree P n)
unfolding alternative_tree
plain_alternative P n =
    plain_object 2 _
    (plain_field 2 key.Crit _ _ (plain_count 2 n.critical)
    (plain_field 2 key.Dead _ _ (plain_named_list P n is_gone)
    (plain_field 2 key.Held _ _ (plain_object 1 _ (plain_each 1 with_count plain_with_count P.objects n.claims no_members (no_more 1)))
    (plain_field 2 key.Live _ _ (plain_named_list P n is_alive)
    (plain_field 2 key.Range _ _ (plain_object 1 _ (plain_each 1 with_named plain_named P.variables n.ranges no_members (no_more 1)))
    (plain_field 2 key.Susp _ _ (plain_count 2 n.suspended) (no_more 2)))))))

plain_list : {A : Type 0} (b : ℕ) (tree : A → Data) → ((x : A) → IsPlain b (tree x)) → (xs : List A) → ItemsPlain b (each_tree tree xs)
plain_list b tree one [] = no_other b
plain_list b tree one (x ∷ xs) = plain_item b (tree x) (each_tree tree xs) (one x) (plain_list b tree one xs)

plain_note : (P : Program) (note : Note) → IsPlain 4 (note_tree P note)
plain_note P [] = plain_string 4 (codes "never")
plain_note P (n ∷ []) = let h = plain_alternative P n in record { floats = h.floats; deep = omega (arith, h.deep) }
plain_note P (n ∷ m ∷ more) = plain_array 3 _ (plain_list 3 (alternative_tree P) (plain_alternative P) (n ∷ m ∷ more))

-- ---- guards

plain_values : (P : Program) (vs : List (ℕ × ℤ)) (ms : Members) → ArePlain 0 ms → ArePlain 0 (with_values P vs ms)
unfolding with_values
plain_values P [] ms h = h
plain_values P (v ∷ vs) ms h = plain_values P vs (put (actor_at P v.0).name (number (of_integer v.1)) ms) (plain_put 0 (actor_at P v.0).name (number (of_integer v.1)) ms (plain_integer 0 v.1) h)

plain_guard : (P : Program) (g : Guard) → IsPlain 2 (guard_tree P g)
plain_guard P (Sole actor) = plain_object 1 _ (plain_member 1 (key_text key.Sole) (string (actor_at P actor).name) no_members (plain_string 1 (actor_at P actor).name) (no_more 1))
plain_guard P (ByMutex mutex) = plain_object 1 _ (plain_member 1 (key_text key.Mutex) (string (object_at P mutex).name) no_members (plain_string 1 (object_at P mutex).name) (no_more 1))
plain_guard P InCritical = plain_string 2 (codes "critical")
plain_guard P (Turn x values) =
    let named = plain_object 0 (with_values P values no_members) (plain_values P values no_members (no_more 0)) in
    plain_object 1 _
    (plain_member 1 (key_text key.Turn) (string (variable_at P x).name) _ (plain_string 1 (variable_at P x).name)
    (plain_member 1 (key_text key.Values) (object (with_values P values no_members)) no_members named (no_more 1)))

plain_end : (P : Program) (e : EndGuard) → IsPlain 3 (end_tree P e)
plain_end P e =
    plain_object 2 _
    (plain_member 2 (key_text key.Buffer) (string (object_at P e.buffer).name) _ (plain_string 2 (object_at P e.buffer).name)
    (plain_member 2 (key_text key.End) (string (end_text e.end)) _ (plain_string 2 (end_text e.end))
    (plain_member 2 (key_text key.Guard) (guard_tree P e.guard) no_members (plain_guard P e.guard) (no_more 2))))

-- ---- the certificate

plain_tree : (P : Program) (C : Certificate) → IsPlain 6 (cert_tree P C)
unfolding cert_tree
plain_tree P C =
    let ends = plain_array 3 _ (plain_list 3 (end_tree P) (plain_end P) C.ends) in
    let notes = plain_array 4 _ (plain_list 4 (note_tree P) (plain_note P) C.notes) in
    plain_object 5 _
    (plain_member 5 (key_text key.Ends) _ _ (record { floats = ends.floats; deep = omega (arith, ends.deep) })
    (plain_member 5 (key_text key.Notes) _ _ notes
    (plain_member 5 (key_text key.Version) (number (unsigned (version_of C.notes))) no_members (plain_count 5 (version_of C.notes)) (no_more 5))))

pub no_float : (P : Program) (C : Certificate) → has_float (cert_tree P C) ≡ false
no_float P C = (plain_tree P C).floats

pub tree_depth : (P : Program) (C : Certificate) → depth (cert_tree P C) ≤ max_depth
tree_depth P C = let h = (plain_tree P C).deep in omega (arith, h)
