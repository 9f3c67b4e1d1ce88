-- One run of the sequential register over the effects of a list of events.
use Rattle.two_copy_steps.proofs.Names.{[], ap, effects, Event, List, MachineState, refl, replies_of, Reply}
use Rattle.two_copy_steps.proofs.Names.{response_to, Sequential, sequential_step, SequentialRun, state_after}
use Rattle.two_copy_steps.proofs.Names.{transition, ◌++◌, ◌∙◌, ◌∷◌, ◌≡◌}
use Rattle.council_core.specs.Sequential.{Call}
use Rattle.two_copy_steps.specs.Effects.{sequential_steps, effect, sequential_replies}

-- calls after calls
state_after-append : (s : Sequential) (calls more : List Call) → state_after s (calls ++ more) ≡ state_after (state_after s calls) more
state_after-append s [] more = refl
state_after-append s (call ∷ calls) more = state_after-append (response_to s call).0 calls more

replies_of-append : (s : Sequential) (calls more : List Call) → replies_of s (calls ++ more) ≡ replies_of s calls ++ replies_of (state_after s calls) more
replies_of-append s [] more = refl
replies_of-append s (call ∷ calls) more = ap (λ (rs : List Reply). (response_to s call).1 ∷ rs) (replies_of-append (response_to s call).0 calls more)

-- the run over the list of effects, event by event
pub one_run : (events : List Event) (t : SequentialRun) (m : MachineState) → (replies_of t.register (effects m events) ≡ sequential_replies t m events) × (state_after t.register (effects m events) ≡ (sequential_steps t m events).register)
one_run [] t m = (refl, refl)
one_run (event ∷ events) t m =
    let later = one_run events (sequential_step t m event) (transition m event).0 in
    let first = effect m event in
    let rest = effects (transition m event).0 events in (
      replies_of-append t.register first rest ∙ ap (λ (rs : List Reply). replies_of t.register first ++ rs) later.0,
      state_after-append t.register first rest ∙ later.1,
    )
