-- The first end whose guard a point's note doesn't imply: for the public contract of `guarded`. `inside_end` is for that of
-- `is_inside_end`.
use Rattle.std.specs.Prelude.{◌≡◌, ◌&&◌, ℕ, Bool, false, Option, None, Some, nat_eq}
use Rattle.fr_program.specs.declared.instr.ObjectCall.{ObjectCall}
use Rattle.fr_program.specs.declared.ids.Point.{Point}
use Rattle.fr_program.specs.Program.{Program}
use Rattle.fr_program.specs.declared.instr.End.{End}
use Rattle.fr_program.specs.declared.instr.End.TheVariants.{Writer, Reader}
use Rattle.fr_ends.specs.declared.ends.EndName.{EndName}
use Rattle.fr_ends.specs.Certificate.{Certificate}
use Rattle.fr_ends.specs.Guarded.{Guarded}
use Rattle.fr_rules.specs.Rule.{is_at_end}

-- the point is guarded at each end of each buffer, or it isn't at this one. A writer's end comes before each reader's
-- end: where a reader's end is named, the point is guarded at each writer's end
abbrev pub IsFirstEnd : Program → Certificate → Point → Option EndName → Type 0
IsFirstEnd P C p None = (buffer : ℕ) (end : End) → Guarded P C p buffer end
IsFirstEnd P C p (Some e) =
    (Guarded P C p e.buffer.0 e.end → ⊥) × (e.end ≡ Reader → (buffer : ℕ) → Guarded P C p buffer Writer)

-- whether there is a call, and it is at this end of the buffer
abbrev pub inside_end : Option ObjectCall → EndName → Bool
inside_end (Some call) end = nat_eq call.object.0 end.buffer.0 && is_at_end end.end call.act
inside_end None end = false
