-- What the text of a certificate means, for an application.
--
-- | word                                | meaning                                                                |
-- |-------------------------------------|------------------------------------------------------------------------|
-- | NoteText                            | a note as its object has it: depths, counts, and numbers of things     |
-- | IsNoteText                          | an object means the parts of a note, key by key                        |
-- | IsInside, NoteTextFits              | a range is in the declared one; the parts are a note of the application |
-- | claim_at, range_at, note_said       | what the parts say of an object, of a variable; the alternative        |
-- | IsAlternative, IsPlainNote          | an object, a value means one alternative                               |
-- | IsNote, AreNotes                    | a value means a note, in a version; a list means one for each point    |
-- | AreTurnValues                       | an object means the values of a turn, rising by actor                  |
-- | IsGuardObject, IsGuard              | an object, a value means a guard                                       |
-- | IsEnd, IsFitEnd                     | an object means the guard of an end, key by key; which fits            |
-- | AreFitEnds                          | a list means guards of ends that fit, none of one end twice            |
-- | IsVersion                           | a value is one of the two versions                                     |
-- | IsCertificate, IsTree               | an object means a certificate, key by key; a value is such an object   |
-- | IsTreeText                          | the bytes are the text of this value                                   |
-- | Means                               | the bytes mean a certificate of this application                       |
use Rattle.std.specs.Prelude.{◌≡◌, ◌<◌, ◌≤◌, ◌≤ℤ◌, ◌⊎◌, ℕ, ℤ, pos, List, [], ◌∷◌, Bool, ◌||◌, IsTrue, if◌then◌else◌, Option, Some, is_some, option_map, unwrap_or, All, AllPairs, IsUtf8, codes, find, length, map, nat_eq}
use Rattle.std.specs.List.{list_any, range_with_len}
use Rattle.serde_json.specs.Data.{Data, Items, Members}
use Rattle.serde_json.specs.Find.{as_str}
use Rattle.serde_json.specs.Read.{read}
use Rattle.fr_program.specs.Program.{Program}
use Rattle.fr_program.specs.Lookup.{variable_at}
use Rattle.fr_program.specs.Limits.{IsNumber}
use Rattle.fr_program.specs.Points.{points_of}
use Rattle.fr_instr.specs.Names.{NamesOf}
use Rattle.fr_program.specs.declared.instr.End.{End as BufferEnd}
use Rattle.fr_program.specs.Uses.{end_text}
use Rattle.fr_rules.specs.State.{kind_of}
use Rattle.fr_notes.specs.declared.claim.Claim.{Claim}
use Rattle.fr_notes.specs.declared.claim.Claim.TheVariants.{NotHeld, Alive, Gone, HeldTimes}
use Rattle.fr_notes.specs.Note.{Alternative, Note}
use Rattle.fr_notes.specs.Fits.{CanClaim, most_alternatives}
use Rattle.fr_notes.specs.Parts.{claim_by}
use Rattle.fr_ends.specs.Guard.{Guard, Sole, ByMutex, InCritical, Turn, EndGuard}
use Rattle.fr_ends.specs.Certificate.{Certificate, value_for}
use Rattle.fr_ends.specs.Fits.{AreRising, EndFits, AreOfOneEnd}
use Rattle.fr_cert.specs.Keys.{AreKnown, integer_of, names_in}
use Rattle.fr_cert.specs.Shapes.{At, AtOrDefault, IsObject, IsList, EachEntry, EachMember, IsNamed, Names, AreNames, IsDepth, IsSpan}
use Rattle.fr_cert.specs.declared.key.Key.TheVariants as key
use Rattle.fr_cert.specs.declared.key.Keyed.TheVariants as place

-- a note as its object has it: how often objects are held, by number, the two depths, the numbers of live and of dead
-- objects, and both ends of ranges of variables, by number
pub record NoteText : Type 0 where
  pub held : List (ℕ × ℕ)
  pub crit : ℕ
  pub susp : ℕ
  pub live : List ℕ
  pub dead : List ℕ
  pub ranges : List (ℕ × (ℤ × ℤ))

-- the object means these parts of a note, key by key; each key may be missing
pub record IsNoteText (N : NamesOf) (ms : Members) (text : NoteText) : Type 0 where
  pub only : AreKnown place.Note ms
  pub held : AtOrDefault key.Held [] (IsObject (EachMember (IsNamed N.objects IsDepth))) ms text.held
  pub crit : AtOrDefault key.Crit 0 IsDepth ms text.crit
  pub susp : AtOrDefault key.Susp 0 IsDepth ms text.susp
  pub live : AtOrDefault key.Live [] (IsList (AreNames N.objects)) ms text.live
  pub dead : AtOrDefault key.Dead [] (IsList (AreNames N.objects)) ms text.dead
  pub ranges : AtOrDefault key.Range [] (IsObject (EachMember (IsNamed N.variables IsSpan))) ms text.ranges

-- the application has the variable, and the range is inside its declared one
abbrev pub IsInside : Program → ℕ × (ℤ × ℤ) → Type 0
IsInside P x = (x.0 < length P.variables) × ((variable_at P x.0).lo ≤ℤ x.1.0) × (x.1.1 ≤ℤ (variable_at P x.0).hi)

-- how often the object is held, if the list has it
abbrev pub count_for : List (ℕ × ℕ) → ℕ → Option ℕ
count_for held o = option_map (λ h. h.1) (find (λ h. nat_eq h.0 o) held)

-- whether the list has the object
abbrev pub has : List ℕ → ℕ → Bool
has objects o = list_any (λ named. nat_eq named o) objects

-- the parts are a note of the application: each count is one that an actor can hold, no dead object is named live or
-- held, and each range is inside the declared one
pub record NoteTextFits (P : Program) (text : NoteText) : Type 0 where
  pub held : All (λ h. (h.0 < length P.objects) × CanClaim (kind_of P h.0) (HeldTimes h.1)) text.held
  pub apart : All (λ o. IsTrue (has text.live o || is_some (count_for text.held o)) → ⊥) text.dead
  pub ranges : All (IsInside P) text.ranges

-- what the parts say of an object: held so often, dead, live, or by default not held
abbrev pub claim_at : NoteText → ℕ → Claim
claim_at text o = claim_by (count_for text.held o) (if has text.dead o then Gone else (if has text.live o then Alive else NotHeld))

-- the range of the variable with this number: the one that it is given, or the declared one
abbrev pub range_at : Program → List (ℕ × (ℤ × ℤ)) → ℕ → ℤ × ℤ
range_at P ranges x = unwrap_or (option_map (λ r. r.1) (find (λ r. nat_eq r.0 x) ranges)) ((variable_at P x).lo, (variable_at P x).hi)

-- the one alternative that the parts say
abbrev pub note_said : Program → NoteText → Alternative
note_said P text = record {
  critical = text.crit;
  suspended = text.susp;
  claims = map (claim_at text) (range_with_len 0 (length P.objects));
  ranges = map (range_at P text.ranges) (range_with_len 0 (length P.variables));
}

-- the object means this alternative
abbrev pub IsAlternative : Program → Members → Alternative → Type 0
IsAlternative P ms n = (text : NoteText) × IsNoteText (names_in P) ms text × NoteTextFits P text × (n ≡ note_said P text)

-- the value is an object that does
abbrev pub IsPlainNote : Program → Data → Alternative → Type 0
IsPlainNote P d n = IsObject (IsAlternative P) d n

-- the value means the note: `never`, which has no alternative, one alternative, or in version 2 a list of one to four
abbrev pub IsNote : Program → ℕ → Data → Note → Type 0
IsNote P version d note =
    ((as_str d ≡ Some (codes "never")) × (note ≡ []))
    ⊎ (((n : Alternative) × IsPlainNote P d n × (note ≡ n ∷ []))
    ⊎ ((version ≡ 2) × IsList (EachEntry (IsPlainNote P)) d note × (1 ≤ length note) × (length note ≤ most_alternatives)))

-- the entries mean these notes, of which there is one for each point
abbrev pub AreNotes : Program → ℕ → Items → List Note → Type 0
AreNotes P version ds notes = EachEntry (IsNote P version) ds notes × (length notes ≡ length (points_of P))

-- the value is an integer of 64 bits
abbrev pub IsTurnNumber : Data → ℤ → Type 0
IsTurnNumber d z = (integer_of d ≡ Some z) × IsNumber z

-- the object gives each actor the value that it has in the list, which rises by actor
abbrev pub AreTurnValues : NamesOf → Members → List (ℕ × ℤ) → Type 0
AreTurnValues N ms values =
    (given : List (ℕ × ℤ)) × EachMember (IsNamed N.actors IsTurnNumber) ms given × AreRising values
    × ((a : ℕ) → value_for values a ≡ value_for given a)

-- the object means the guard, key by key; a critical section is no object
abbrev pub IsGuardObject : NamesOf → Members → Guard → Type 0
IsGuardObject N ms (Sole actor) = AreKnown place.Sole ms × At key.Sole (Names N.actors) ms actor
IsGuardObject N ms (ByMutex mutex) = AreKnown place.Mutex ms × At key.Mutex (Names N.objects) ms mutex
IsGuardObject N ms InCritical = ⊥
IsGuardObject N ms (Turn x values) =
    AreKnown place.Turn ms × At key.Turn (Names N.variables) ms x
    × At key.Values (IsObject (AreTurnValues N)) ms values

-- the value means the guard: the text `critical`, or such an object
abbrev pub IsGuard : NamesOf → Data → Guard → Type 0
IsGuard N d guard = ((as_str d ≡ Some (codes "critical")) × (guard ≡ InCritical)) ⊎ IsObject (IsGuardObject N) d guard

-- the value is the name of the end
abbrev pub IsEndName : Data → BufferEnd → Type 0
IsEndName d end = as_str d ≡ Some (end_text end)

-- the object means the guard of an end, key by key
pub record IsEnd (N : NamesOf) (ms : Members) (e : EndGuard) : Type 0 where
  pub only : AreKnown place.End ms
  pub buffer : At key.Buffer (Names N.objects) ms e.buffer
  pub end : At key.End IsEndName ms e.end
  pub guard : At key.Guard (IsGuard N) ms e.guard

-- the value is an object that does, and the guard fits the application
abbrev pub IsFitEnd : Program → Data → EndGuard → Type 0
IsFitEnd P d e = IsObject (IsEnd (names_in P)) d e × EndFits P e

-- the entries mean guards of ends that fit, none of one end twice
abbrev pub AreFitEnds : Program → Items → List EndGuard → Type 0
AreFitEnds P ds es = EachEntry (IsFitEnd P) ds es × AllPairs (λ e g. AreOfOneEnd e g → ⊥) es

-- the value is the version 1 or 2
abbrev pub IsVersion : Data → ℕ → Type 0
IsVersion d version = (integer_of d ≡ Some (pos version)) × ((version ≡ 1) ⊎ (version ≡ 2))

-- the object means the certificate, key by key: a version, ends that fit the application, and one note for each point
pub record IsCertificate (P : Program) (ms : Members) (C : Certificate) : Type 0 where
  pub version : ℕ
  pub only : AreKnown place.Certificate ms
  pub numbered : At key.Version IsVersion ms version
  pub ends : At key.Ends (IsList (AreFitEnds P)) ms C.ends
  pub notes : At key.Notes (IsList (AreNotes P version)) ms C.notes

-- the value is an object that does
abbrev pub IsTree : Program → Data → Certificate → Type 0
IsTree P d C = IsObject (IsCertificate P) d C

-- how many bytes the text of a certificate has at the most
abbrev pub most_bytes : ℕ
most_bytes = 16777216

-- the bytes are the text of this value
pub record IsTreeText (bytes : List ℕ) (d : Data) : Type 0 where
  pub size : length bytes ≤ most_bytes
  pub utf8 : IsUtf8 bytes
  pub parsed : read bytes ≡ Some d

-- the bytes mean, for this application, this certificate
pub record Means (P : Program) (bytes : List ℕ) (C : Certificate) : Type 0 where
  pub tree : Data
  pub text : IsTreeText bytes tree
  pub means : IsTree P tree C
