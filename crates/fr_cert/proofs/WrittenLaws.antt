-- What is written for a certificate means the certificate again.
use Rattle.std.proofs.Common.{◌≡◌, ◌≤◌, ℕ, List, Bool, true, false, IsUtf8, Some, cond, length, nat_le, refl, sym, subst, inl, inr, ◌⊎◌}
use Rattle.fr_cert.proofs.Terms.{list_all, Data, number, unsigned, array, no_members, member, depth, read, max_depth, Program, IsFaultless, Note, Certificate, CertificateFits, key_text, IsVersion}
use Rattle.fr_cert.proofs.Terms.{IsTree, Means, most_bytes, each_tree, note_tree, end_tree, version_of}
use Rattle.fr_cert.specs.Keys.{field}
use Rattle.fr_cert.specs.declared.key.Key.TheVariants as key
use Rattle.fr_cert.specs.declared.key.Keyed.TheVariants as place
use Rattle.fr_cert.specs.Written.{cert_tree}
use Rattle.fr_cert.proofs.NotesAgain.{known_more, none_known, notes_again}
use Rattle.fr_cert.proofs.EndsAgain.{ends_again}
use Rattle.fr_cert.proofs.ShapeLemmas.{tree_depth}

abbrev version_by : Bool → ℕ
version_by b = cond b 1 2

one_or_two : (b : Bool) → (version_by b ≡ 1) ⊎ (version_by b ≡ 2)
one_or_two true = inl refl
one_or_two false = inr refl

version_again : (notes : List Note) → IsVersion (number (unsigned (version_of notes))) (version_of notes)
version_again notes = (refl, one_or_two (list_all (λ note. nat_le (length note) 1) notes))

tree_again : (P : Program) (C : Certificate) → IsFaultless P → CertificateFits P C → IsTree P (cert_tree P C) C
unfolding cert_tree field
tree_again P C faultless fits =
    let number_ = number (unsigned (version_of C.notes)) in
    let version = member (key_text key.Version) number_ no_members in
    let notes = member (key_text key.Notes) (array (each_tree (note_tree P) C.notes)) version in
    let known = known_more place.Certificate (key_text key.Version) number_ no_members refl (none_known place.Certificate) in (
      member (key_text key.Ends) (array (each_tree (end_tree P) C.ends)) notes,
      refl,
      record {
        version = version_of C.notes;
        only = known_more place.Certificate (key_text key.Ends) (array (each_tree (end_tree P) C.ends)) notes refl (known_more place.Certificate (key_text key.Notes) (array (each_tree (note_tree P) C.notes)) version refl known);
        numbered = (number_, refl, version_again C.notes);
        ends = (array (each_tree (end_tree P) C.ends), refl, (each_tree (end_tree P) C.ends, refl, (ends_again P C.ends faultless fits.1.0, fits.1.1)));
        notes = (array (each_tree (note_tree P) C.notes), refl, (each_tree (note_tree P) C.notes, refl, (notes_again P C.notes faultless fits.0.1, fits.0.0)));
      },
    )

-- the text that was written means the certificate
pub written_again : (P : Program) (C : Certificate) (bytes : List ℕ) (d : Data) → IsFaultless P → CertificateFits P C → d ≡ cert_tree P C → IsUtf8 bytes → (depth d ≤ max_depth → read bytes ≡ Some d) → length bytes ≤ most_bytes
    → Means P bytes C
written_again P C bytes d faultless fits same utf8 parsed size = record {
  tree = d;
  text = record { size = size; utf8 = utf8; parsed = parsed (subst (λ e. depth e ≤ max_depth) (sym same) (tree_depth P C)) };
  means = subst (λ e. IsTree P e C) (sym same) (tree_again P C faultless fits);
}
