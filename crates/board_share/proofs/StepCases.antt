-- What a step, a publication that may begin and one that was abandoned say, part by part; and the seats of readers and writers.
use Rattle.board_share.proofs.Names.{[], arith, Arrived, AtRest, bare_seat, Bool, Busy, Command, false, get_elem?}
use Rattle.board_share.proofs.Names.{History, Idle, IsKnown, IsStepOn, last_reported, Ledger, length, List, Me, Moved}
use Rattle.board_share.proofs.Names.{None, Opening, WriterState, writer_at, ReaderState, ReaderView, refl}
use Rattle.board_share.proofs.Names.{seat_of_reader, seat_view, SeatsReader, SeatsWriter, Some, some, subst, suc}
use Rattle.board_share.proofs.Names.{Swapping, sym, true, true≢false, View, with_writer, WriterView, ℕ, ◌∙◌, ◌∷◌, ◌≡◌}
use Rattle.atomic_table.specs.Table as table
use Rattle.council_core.specs.declared.commands.Command.TheVariants.{Close}
use Rattle.two_copy_steps.specs.Lawful.{IsPrefix}
use Rattle.board_share.specs.Steps.{WriterActed, write_then}
use Rattle.board_share.specs.Writers.{GaveUp, MayPublish}

-- the first step of a reader at rest: it arrives, its view is known, and its output is that it moved
abbrev at_rest : ReaderView
at_rest = record { stage = AtRest; readings = [] }

abbrev arrived : ReaderView
arrived = record { stage = Arrived; readings = [] }

module _ (opening : Opening) (h : History) (me' : Me Unit View) (took : IsStepOn (bare_seat (seat_of_reader h 0 (opening, at_rest))) 0 me') where
  seat_arrived : (h' : History) × (me' ≡ bare_seat (seat_of_reader h' 0 (opening, arrived)))
  seat_arrived = let step = took 0 opening at_rest h refl in (step.0, step.1)

  known_to_arrive : IsKnown opening arrived
  known_to_arrive = (took 0 opening at_rest h refl).2

  moved : (h' : History) × (last_reported h' ≡ Some Moved)
  moved = let step = took 0 opening at_rest h refl in (step.0, step.3.reported)

-- a step of a writer that is at rest changes its seat's view and history alone, and its output is that it was skipped or what its phase says
module _ (me me' : Me Unit View) (opening : Opening) (v : WriterView) (holds : me.0.writer ≡ Some (opening, v)) (took : write_then None me 0 me') where
  seat_written : (w : WriterView) × (me' ≡ (with_writer me.0 opening w me'.0.history, me.1))
  seat_written = (_, (took opening v holds).0)

  writer_acted : (w : WriterView) × WriterActed None 0 me.0.history me'.0.history v w
  writer_acted = (_, (took opening v holds).1)

-- a publication may not begin where there is nothing more, in a publication, above the limit, over other commands or with a refused one
module _ (h : History) (opening : Opening) (v : WriterView) where
  nothing_more : MayPublish h opening v v.state.published → ⊥
  nothing_more may = omega (arith, may.more)

  in_a_publication : (list : List Command) → v.state.phase ≡ Swapping → MayPublish h opening v list → ⊥
  in_a_publication list swapping may = let is : Swapping ≡ Idle = sym swapping ∙ may.idle in cc is

  above_the_limit : (list : List Command) → length list ≡ suc h.origin.register.limit → MayPublish h opening v list → ⊥
  above_the_limit list long may = omega (arith, long, may.within)

  other_commands : v.state.staged ≡ Close 1 ∷ [] → MayPublish h opening v [] → ⊥
  other_commands staged may =
      let begins : IsPrefix (Close 1 ∷ []) [] = subst (λ (l : List Command). IsPrefix l []) staged may.extends in
      cc begins.1

  refused_command : MayPublish h [] v (Close 1 ∷ []) → ⊥
  refused_command may = true≢false (sym may.publishable.0.0)

-- an abandoned publication names the first reader that is not quiescent, and who was quiescent still is
module _ (ledger : Ledger) (start me : Me Unit View) where
  second_named : (before : List Bool) → GaveUp ledger start me before (false ∷ []) 2 → ⊥
  second_named before gave = omega (arith, gave.named.0)

  all_quiescent : (before : List Bool) → GaveUp ledger start me before (true ∷ []) 2 → ⊥
  all_quiescent before gave = true≢false gave.named.1

  one_forgotten : GaveUp ledger start me (true ∷ []) (false ∷ []) 1 → ⊥
  one_forgotten gave = let is = gave.stay 0 refl in cc is

  busy_reported : (before after : List Bool) → GaveUp ledger start me before after 1 → (last_reported me.0.history ≡ Some (Busy 1)) × (me.1 ≡ [])
  busy_reported before after gave = (gave.took.reported, gave.took.bare)

-- the seats of a reader and of a writer are among the views
module _ (s : table.State Unit View) where
  reader_among : (p : ReaderState) → SeatsReader s p → (id : ℕ) × (get_elem? s.views id ≡ some (seat_view p))
  reader_among p seated = (seated.0, seated.1)

  writer_among : (b : WriterState) → SeatsWriter s b → (id : ℕ) × (v : View) × (get_elem? s.views id ≡ some v) × (b ≡ writer_at b.table b.ledger v)
  writer_among b seated = (seated.0, seated.1, seated.2, seated.3.same)
