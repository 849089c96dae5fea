-- The words that the proofs of this crate use of other crates and of its own specs, each named in one place.
pub use Rattle.std.specs.List.{AllByRecursion, position_or_len, range_with_len, list_all}
pub use Rattle.std.proofs.lemmas.Bool.{cases_lt, false≢true, le-leb, lt-leb}
pub use Rattle.std.proofs.lemmas.Bool.Decides.{Decides-eqb, Decides-ltb, Decides-int_eq, leb_tells}
pub use Rattle.std.proofs.lemmas.List.Elements.{All-head, All-tail, All-cons, All-nil, All-map, All-push, All-weaker}
pub use Rattle.std.proofs.lemmas.List.{map-id, take_more, get_or-take, length-take-le, get_or_default, get_or-map, length-map, get_or_append_left, get_or_push}
pub use Rattle.std.proofs.lemmas.List.{length_push, map_push, drop_all, nil_from_length, take_all}
pub use Rattle.std.proofs.lemmas.Int.{ints}
pub use Rattle.std.specs.Cmp.Lexicographic.{slice_cmp}
pub use Rattle.std.specs.Ordering.{match_ordering, int_eq, is_eq}
pub use Rattle.std.proofs.lemmas.Map.Lookups.{exact_bytes}
pub use Rattle.std.proofs.lemmas.Option.{same_Some, none-some}
pub use Rattle.std.proofs.lemmas.Slice.Eq.{bytes_eq-Decides}
pub use Rattle.std.specs.Map.{keys_of, lookup}
pub use Rattle.std.specs.BTreeMap.{is_at, BTreeMap, get}
pub use Rattle.std.specs.Cmp.{tied_itself}
pub use Rattle.std.proofs.lemmas.Cmp.{nat_list_cmp_total}
pub use Rattle.std.proofs.lemmas.Result.{IfErr-weaker, err_from_is_err_and, IfOk-weaker}
pub use Rattle.std.specs.Map.Iter.{deref_pair, deref}
pub use Rattle.std.proofs.lemmas.Map.Iter.{rest_more, rest_all}
pub use Rattle.std.specs.Fmt.{HasWritten, IsPlainFormatter}
pub use Rattle.serde_json.specs.Data.{number, string, object, Members, no_members, member, put, Data, Items, no_items, item, null, boolean, array, unsigned, Num, negative, float, depth, items_depth}
pub use Rattle.serde_json.specs.Data.{members_depth}
pub use Rattle.serde_json.specs.Find.{of_integer, get_item, as_array, as_object, as_str, get_member, as_integer, as_number, as_u64, as_i64}
pub use Rattle.fr_program.specs.Program.{Program, VariableOf, ObjectOf, ActorOf}
pub use Rattle.fr_program.specs.Lookup.{variable_at, object_at, actor_at, no_variable, no_object, no_actor}
pub use Rattle.fr_program.specs.Limits.{IsNumber, VariableInLimits}
pub use Rattle.fr_program.specs.Fault.{IsFaultless, IsInLimits}
pub use Rattle.fr_program.specs.Uses.{end_text}
pub use Rattle.fr_ends.specs.Guard.{Guard, Sole, ByMutex, InCritical, Turn, EndGuard}
pub use Rattle.fr_ends.specs.Certificate.{value_for, Certificate}
pub use Rattle.fr_ends.specs.Fits.{AreRising, GuardFits, EndFits, AreOfOneEnd, CertificateFits, EndsFit}
pub use Rattle.fr_ends.proofs.TurnLemmas.{RisesFrom, rises_whole, none_below, later_value, first_value, rising}
pub use Rattle.serde_json.specs.Events.{items_len}
pub use Rattle.serde_json.specs.View.{items_view, view, members_view, number_view}
pub use Rattle.serde_json.specs.declared.value.Value.{Value, the_lemmas, Array}
pub use Rattle.serde_json.proofs.Views.{get_item_within, items_len-items_view, Entry, view-lookup, view_of_ref, get_member-put, get_member-put_other, get_item_past, view-Array, view-Object}
pub use Rattle.serde_json.specs.Read.{read, max_depth}
pub use Rattle.fr_instr.specs.Names.{NamesOf, place_of}
pub use Rattle.fr_notes.specs.Note.{Note, Alternative}
pub use Rattle.fr_program.specs.declared.range.Range.{Range}
pub use Rattle.fr_notes.specs.Fits.{AlternativeFits, CanClaim, NoteFits, most_depth}
pub use Rattle.fr_notes.specs.View.{ends_of}
pub use Rattle.fr_program.specs.declared.parts.Kind.{Kind}
pub use Rattle.fr_program.specs.declared.parts.Kind.TheVariants.{Mutex, Recursive}
pub use Rattle.fr_rules.specs.State.{kind_of}
pub use Rattle.fr_notes.specs.declared.claim.Claim.{Claim}
pub use Rattle.fr_notes.specs.declared.claim.Claim.TheVariants.{HeldTimes, NotHeld, Alive, Gone}
pub use Rattle.fr_notes.specs.declared.note.NoteParts.{NoteParts}
pub use Rattle.fr_notes.specs.declared.fault.NoteFault.{NoteFault}
pub use Rattle.fr_notes.specs.declared.fault.NoteFault.TheVariants.{Memory, Count, Lives, Span}
pub use Rattle.fr_notes.specs.Parts.{said, claim_said, count_in, names, is_live_said, range_in, range_by, range_said, IsCount, HasFault, claim_by}
pub use Rattle.serde_json.specs.Written.{has_float, items_have_float, members_have_float, compact_text}
pub use Rattle.fr_program.specs.declared.ids.ActorId.{ActorId}
pub use Rattle.fr_ends.specs.View.{value_of, values_of, end_of}
pub use Rattle.fr_program.specs.View.{object_of, variable_of}
pub use Rattle.fr_program.specs.Points.{points_of}
pub use Rattle.fr_cert.specs.Keys.{key_text, names_in, AreKnown, field, integer_of, end_at, is_key_of}
pub use Rattle.fr_cert.specs.Shapes.{IsObject, EachEntry, EachMember, IsNamed, At, OrDefault, IsList, Names, AreNames, IsDepth, AreEnds, IsSpan}
pub use Rattle.fr_cert.specs.Meaning.{IsTurnNumber, AreTurnValues, IsGuard, IsEnd, IsFitEnd, NoteText, IsNoteText, NoteTextFits, IsAlternative, IsPlainNote, IsNote, AreNotes, IsGuardObject, IsEndName}
pub use Rattle.fr_cert.specs.Meaning.{AreFitEnds, IsVersion, IsCertificate, Means, note_said, IsTree, IsInside, count_for, has, claim_at, range_at, most_bytes}
pub use Rattle.fr_cert.specs.Written.{guard_tree, end_tree, each_tree, range_tree, is_declared, with_named, with_count, is_alive, is_gone, is_default, with_field, note_tree, version_of, with_values}
pub use Rattle.fr_cert.specs.Written.{names_where, alternative_tree, with_each}
pub use Rattle.fr_cert.specs.Faults.{InKeys, InField, InNeeded, InObject, InList, InEntries, InMembers, InNamed, InDepth, InName, IsTwice, InNames, InEnds, InSpan, is_memory, Standing, deeper, Within}
pub use Rattle.fr_cert.specs.Present.{InKeysOfNote, InAlternative, InAlternatives, InNote, InNotes, InTurnValue, InGuardObject, InGuard, InEndName, InKeysOfEnd, InEnd, InAllEnds, InVersion}
pub use Rattle.fr_cert.specs.Present.{InCertificate, InTree, InBytes, IsPresent}
pub use Rattle.fr_cert.specs.declared.key.Key.{Key}
pub use Rattle.fr_cert.specs.declared.key.Keyed.{Keyed}
pub use Rattle.fr_cert.specs.declared.fault.CertFault.{CertFault}
pub use Rattle.fr_cert.specs.Path.{PathStep, step_of, step_text, more_text, at, path_text}
pub use Rattle.fr_cert.specs.Views.{HasNumbers, named_of, count_of, number_of, text_of, refused_as, says}
pub use Rattle.fr_cert.specs.NotesRead.{IsReadAt, AreRemembered, AreRead, AreReadBy}
