-- A handle may go to another thread: what it owns says the same there.
use mathlib.Core.Bool.{Bool, true, false}
use mir.Raw.{raw}
use base.Fml.{Fml, ftrue}
use base.Shift.{Keyless}
use denote.Builtin.{RawPtr, u64}
use denote.Memory.{lone}
use denote.Param.Send.{IsSend, struct_send, owning_send, sendable}
use denote.Struct.Struct.{exits_of}
use denote.Struct.Owning.{shape, fields, to}
use Rattle.std.specs.Prelude.{cond, eqb}
use Rattle.std.proofs.Crossing.{frees}
use Rattle.std_alloc.proofs.SendSync.{quiet, lies}
use Rattle.council_core.proofs.published.PublishedRegister.TheSendSync.{the_send}
use Rattle.council_core.specs.contracts.published.PublishedRegister as published
use Rattle.board_c.specs.contracts.register.handles.BoardRegister.{the_row, the_type}

either : (live : Bool) (owned : Fml) → Keyless owned → Keyless (cond live owned ftrue)
either true owned k = k
either false owned k = tt

pub send : IsSend the_row
send = let ps : IsSend RawPtr = search sendable in let ns : IsSend u64 = search sendable in
    owning_send the_type (ps, (ns, tt))
    (λ h. either (eqb h.state 1) _ (lies published.the_row the_send h.at h.register, frees.frees (record { memory = record { seal = tt } }) (raw (lone published.the_row.mir)) h.at))
    (λ k. quiet (to the_type) (exits_of k (fields the_type)) ((struct_send (shape the_type) (ps, (ns, tt))).leaving k))
