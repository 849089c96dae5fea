-- What a value is, by what is found in it, and when two lists of values read the same.
use Rattle.std.proofs.Common.{◌≡◌, ◌<◌, ◌+◌, ℕ, ℤ, List, Some, None, option_and_then, length, get_or, drop, sym, ap, ◌∙◌}
use Rattle.fr_cert.proofs.Terms.{same_Some, none-some, Num, unsigned, negative, float, Data, null, boolean, number, string, array, object, item, as_number, as_str}
use Rattle.fr_cert.proofs.Terms.{as_u64, as_i64, items_view, view, Value}
use Rattle.fr_cert.proofs.WrittenLemmas.{drop_here}

pub num-unsigned : (n : Num) (k : ℕ) → as_u64 n ≡ Some k → n ≡ unsigned k
num-unsigned (unsigned m) k e = ap unsigned (same_Some m k e)
num-unsigned (negative z) k e = absurd (none-some k e)
num-unsigned (float x) k e = absurd (none-some k e)

pub num-negative : (n : Num) (z : ℤ) → as_u64 n ≡ None → as_i64 n ≡ Some z → n ≡ negative z
num-negative (unsigned m) z none e = absurd (none-some m (sym none))
num-negative (negative y) z none e = ap negative (same_Some y z e)
num-negative (float x) z none e = absurd (none-some z e)

pub is-unsigned : (d : Data) (k : ℕ) → option_and_then as_u64 (as_number d) ≡ Some k → d ≡ number (unsigned k)
is-unsigned null k e = absurd (none-some k e)
is-unsigned (boolean b) k e = absurd (none-some k e)
is-unsigned (number n) k e = ap number (num-unsigned n k e)
is-unsigned (string s) k e = absurd (none-some k e)
is-unsigned (array ds) k e = absurd (none-some k e)
is-unsigned (object ms) k e = absurd (none-some k e)

pub is-negative : (d : Data) (z : ℤ) → option_and_then as_u64 (as_number d) ≡ None → option_and_then as_i64 (as_number d) ≡ Some z → d ≡ number (negative z)
is-negative null z none e = absurd (none-some z e)
is-negative (boolean b) z none e = absurd (none-some z e)
is-negative (number n) z none e = ap number (num-negative n z none e)
is-negative (string s) z none e = absurd (none-some z e)
is-negative (array ds) z none e = absurd (none-some z e)
is-negative (object ms) z none e = absurd (none-some z e)

pub is-text : (d : Data) (s : List ℕ) → as_str d ≡ Some s → d ≡ string s
is-text null s e = absurd (none-some s e)
is-text (boolean b) s e = absurd (none-some s e)
is-text (number n) s e = absurd (none-some s e)
is-text (string t) s e = ap string (same_Some t s e)
is-text (array ds) s e = absurd (none-some s e)
is-text (object ms) s e = absurd (none-some s e)

-- ---- the rest of two lists, of two objects

pub items-more : (vs ws : List Value) (i : ℕ) (v w : Value) → i < length vs → i < length ws → v ≡ get_or vs i v → w ≡ get_or ws i w → view v ≡ view w
    → items_view (drop (i + 1) vs) ≡ items_view (drop (i + 1) ws) → items_view (drop i vs) ≡ items_view (drop i ws)
items-more vs ws i v w in_vs in_ws is_v is_w same rest =
    ap items_view (drop_here vs i v in_vs is_v)
    ∙ (ap (λ d. item d (items_view (drop (i + 1) vs))) same ∙ (ap (item (view w)) rest ∙ sym (ap items_view (drop_here ws i w in_ws is_w))))
