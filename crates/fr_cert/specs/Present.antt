-- Which fault is present in the text of a certificate, for an application.
--
-- | word                  | meaning                                                                                |
-- |-----------------------|----------------------------------------------------------------------------------------|
-- | InKeysOfNote          | the fault is in a key of a note's object, or in what it holds there                    |
-- | InAlternative         | the same, or the parts that the object means are no note                               |
-- | InNote                | the fault is in a value where a note has to be                                         |
-- | InGuardObject, InGuard | the fault is in the object of a guard, in a guard                                     |
-- | InEnd, InAllEnds      | the fault is in the object of an end, in the list of ends                              |
-- | InVersion             | a value is no integer, or another one than 1 and 2                                     |
-- | InNotes               | the list has not one entry for each point, or an entry has the fault                   |
-- | InCertificate, InTree | the fault is in the object, in the value of the whole text                             |
-- | InBytes               | the fault is in the bytes themselves                                                   |
-- | IsPresent             | the fault is in the bytes, or in the value that they are the text of                   |
use Rattle.std.specs.Prelude.{◌≡◌, ◌⊎◌, ◌<◌, ℕ, ℤ, pos, List, [], Some, None, IsUtf8, codes, length}
use Rattle.serde_json.specs.Data.{Data, Items, Members}
use Rattle.serde_json.specs.Find.{as_array, as_object, as_str}
use Rattle.serde_json.specs.Read.{read}
use Rattle.serde_json.specs.Events.{items_len}
use Rattle.fr_program.specs.Program.{Program}
use Rattle.fr_program.specs.Limits.{IsNumber}
use Rattle.fr_program.specs.Points.{points_of}
use Rattle.fr_program.specs.declared.instr.End.{End as BufferEnd}
use Rattle.fr_notes.specs.Fits.{most_alternatives}
use Rattle.fr_ends.specs.Guard.{EndGuard}
use Rattle.fr_ends.specs.Fits.{EndFits, AreOfOneEnd}
use Rattle.fr_instr.specs.Names.{NamesOf}
use Rattle.fr_cert.specs.Keys.{field, integer_of, names_in}
use Rattle.fr_cert.specs.Shapes.{At, IsObject}
use Rattle.fr_cert.specs.Meaning.{NoteText, IsNoteText, NoteTextFits, IsEndName, IsEnd, IsVersion, IsTreeText, most_bytes}
use Rattle.fr_cert.specs.Faults.{Departs, InKeys, InField, InNeeded, InObject, InList, InEntries, InMembers, InNamed, InInteger, InDepth, InName, IsTwice, InNames, InSpan}
use Rattle.fr_cert.specs.declared.key.Key.{Key}
use Rattle.fr_cert.specs.declared.key.Key.TheVariants as key
use Rattle.fr_cert.specs.declared.key.Keyed.TheVariants as place
use Rattle.fr_cert.specs.declared.fault.CertFault.{CertFault}
use Rattle.fr_cert.specs.declared.fault.CertFault.TheVariants as fault

-- the fault is in a key of a note's object, or in what it holds there
abbrev pub InKeysOfNote : NamesOf → Members → CertFault → Type 0
InKeysOfNote N ms f =
    InKeys place.Note ms f
    ⊎ (InField key.Held (InObject (InMembers (InNamed N.objects InDepth))) ms f
    ⊎ (InField key.Crit InDepth ms f
    ⊎ (InField key.Susp InDepth ms f
    ⊎ (InField key.Live (InList (InNames N.objects)) ms f
    ⊎ (InField key.Dead (InList (InNames N.objects)) ms f
    ⊎ InField key.Range (InObject (InMembers (InNamed N.variables InSpan))) ms f)))))

-- so it is, or the parts that the object means are no note of the application
abbrev pub InAlternative : Program → Members → CertFault → Type 0
InAlternative P ms f =
    InKeysOfNote (names_in P) ms f
    ⊎ ((text : NoteText) × IsNoteText (names_in P) ms text × (NoteTextFits P text → ⊥) × (f ≡ fault.Note []))

-- the list has no entry or more than four, or the fault is in an entry, each of which has to be an object
abbrev pub InAlternatives : Program → Items → CertFault → Type 0
InAlternatives P ds f =
    (((items_len ds ≡ 0) ⊎ (most_alternatives < items_len ds)) × (f ≡ fault.Alternatives []))
    ⊎ InEntries (InObject (InAlternative P)) ds f

-- the value is neither an object nor `never`, nor in version 2 a list; or the fault is in the object, or in the list
abbrev pub InNote : Program → ℕ → Data → CertFault → Type 0
InNote P version d f =
    ((as_object d ≡ None) × (as_str d ≡ Some (codes "never") → ⊥) × (version ≡ 2 → as_array d ≡ None) × Departs [] f)
    ⊎ (((ms : Members) × (as_object d ≡ Some ms) × InAlternative P ms f)
    ⊎ ((version ≡ 2) × (ds : Items) × (as_array d ≡ Some ds) × InAlternatives P ds f))

-- the list has more or fewer entries than there are points, or the fault is in an entry
abbrev pub InNotes : Program → ℕ → Items → CertFault → Type 0
InNotes P version ds f = ((items_len ds ≡ length (points_of P) → ⊥) × (f ≡ fault.PointCount)) ⊎ InEntries (InNote P version) ds f

-- the object has the key
abbrev pub Has : Key → Members → Type 0
Has k ms = (d : Data) × (field k ms ≡ Some d)

-- the value is no integer, or one past 64 bits
abbrev pub InTurnValue : Data → CertFault → Type 0
InTurnValue d f = InInteger d f ⊎ ((z : ℤ) × (integer_of d ≡ Some z) × (IsNumber z → ⊥) × (f ≡ fault.Guard []))

-- the fault is in the object of a turn
abbrev pub InTurn : NamesOf → Members → CertFault → Type 0
InTurn N ms f =
    InKeys place.Turn ms f
    ⊎ (InNeeded key.Turn (InName N.variables) ms f
    ⊎ InNeeded key.Values (InObject (InMembers (InNamed N.actors InTurnValue))) ms f)

-- the fault is in the object of a guard: which guard it has to be, its first key of `sole`, `mutex` and others says
abbrev pub InGuardObject : NamesOf → Members → CertFault → Type 0
InGuardObject N ms f =
    (Has key.Sole ms × (InKeys place.Sole ms f ⊎ InNeeded key.Sole (InName N.actors) ms f))
    ⊎ (((field key.Sole ms ≡ None) × Has key.Mutex ms
    × (InKeys place.Mutex ms f ⊎ InNeeded key.Mutex (InName N.objects) ms f))
    ⊎ ((field key.Sole ms ≡ None) × (field key.Mutex ms ≡ None) × InTurn N ms f))

-- the value is neither an object nor `critical`, or the fault is in the object
abbrev pub InGuard : NamesOf → Data → CertFault → Type 0
InGuard N d f =
    ((as_object d ≡ None) × (as_str d ≡ Some (codes "critical") → ⊥) × Departs [] f)
    ⊎ ((ms : Members) × (as_object d ≡ Some ms) × InGuardObject N ms f)

-- the value is no name of an end
abbrev pub InEndName : Data → CertFault → Type 0
InEndName d f = ((end : BufferEnd) → IsEndName d end → ⊥) × Departs [] f

-- the fault is in the object of an end
abbrev pub InKeysOfEnd : NamesOf → Members → CertFault → Type 0
InKeysOfEnd N ms f =
    InKeys place.End ms f
    ⊎ (InNeeded key.Buffer (InName N.objects) ms f
    ⊎ (InNeeded key.End InEndName ms f
    ⊎ InNeeded key.Guard (InGuard N) ms f))

-- so it is, or the guard that the object means doesn't fit the application
abbrev pub InEnd : Program → Members → CertFault → Type 0
InEnd P ms f =
    InKeysOfEnd (names_in P) ms f
    ⊎ ((e : EndGuard) × IsEnd (names_in P) ms e × (EndFits P e → ⊥) × (f ≡ fault.Guard []))

-- the fault is in an entry of the list of ends, or an end is listed twice
abbrev pub InAllEnds : Program → Items → CertFault → Type 0
InAllEnds P ds f = InEntries (InObject (InEnd P)) ds f ⊎ IsTwice (IsObject (IsEnd (names_in P))) AreOfOneEnd (fault.EndTwice []) ds f

-- the value is no integer, or another one than 1 and 2
abbrev pub InVersion : Data → CertFault → Type 0
InVersion d f =
    InInteger d f
    ⊎ ((z : ℤ) × (integer_of d ≡ Some z) × (z ≡ pos 1 → ⊥) × (z ≡ pos 2 → ⊥) × (f ≡ fault.Version))

-- the fault is in the object of the whole text; where its version is none, nothing is said of its notes
abbrev pub InCertificate : Program → Members → CertFault → Type 0
InCertificate P ms f =
    InKeys place.Certificate ms f
    ⊎ (InNeeded key.Version InVersion ms f
    ⊎ (InNeeded key.Ends (InList (InAllEnds P)) ms f
    ⊎ ((version : ℕ) × At key.Version IsVersion ms version × InNeeded key.Notes (InList (InNotes P version)) ms f)))

-- the value of the whole text is no object, or the fault is in it
abbrev pub InTree : Program → Data → CertFault → Type 0
InTree P d f = InObject (InCertificate P) d f

-- the fault is in the bytes themselves: they are too many, or no JSON text
abbrev pub InBytes : List ℕ → CertFault → Type 0
InBytes bytes fault.TooLong = most_bytes < length bytes
InBytes bytes fault.Json = IsUtf8 bytes → read bytes ≡ None
InBytes bytes f = ⊥

-- the fault is in the bytes, or in the value that they are the text of
abbrev pub IsPresent : Program → List ℕ → CertFault → Type 0
IsPresent P bytes f = InBytes bytes f ⊎ ((d : Data) × IsTreeText bytes d × InTree P d f)
