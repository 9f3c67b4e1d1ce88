-- How a change is carried out, and which change a command makes.
use Rattle.std.proofs.Common.{◌≡◌, ℕ, suc, take, get_or, ◌+◌, ◌<◌, Bool, true, false, cond, List, [], ◌∷◌, ◌++◌, length, Some, Result, Ok, Err, is_ok, sym, ◌∙◌, ap, subst, refl, arith, true≢false, slice_set}
use Rattle.std.specs.Prelude.{remove}
use Rattle.std.specs.Option.{option_map_or}
use Rattle.std.specs.Result.{result_unwrap_or}
use Rattle.indexmap.specs.IndexMap.{set_value_at}
use Rattle.indexmap.proofs.MapLemmas.{Found-position, insert_entry-first, remove_entry-first}
use Rattle.council_core.specs.Changes.{IsDue}
use Rattle.council_core.specs.declared.changes.Change.{Change}
use Rattle.council_core.specs.declared.changes.Change.TheVariants as change
use Rattle.council_core.specs.declared.commands.Command.{Command}
use Rattle.council_core.specs.declared.totals.ChairTotals.{ChairTotals}
use Rattle.council_core.specs.declared.commands.Command.TheVariants.{SetVotes, Suspend, Restore}
use Rattle.council_core.specs.declared.commands.Standing.{Standing}
use Rattle.council_core.specs.declared.refusals.Refusal.{Refusal}
use Rattle.council_core.specs.declared.refusals.Refusal.TheVariants.{UnknownMember, AlreadySuspended, NotSuspended}
use Rattle.council_core.specs.Rolls.{Roll, RollEntry, same_code, standing_among, index_among, with_standing, members_without, new_entry, new_standing, is_open, roll_with_open, roll_with_closed, has_members, roll_with_member, roll_without_member, step, next_roll, fold_from, can_receive, update, with_member, suspend_member, restore_member}
use Rattle.council_core.specs.Registers.{IsPlanned, OpensChair, ClosesChair, UpdatesMember, EntersMember, RemovesMember}
use Rattle.council_core.proofs.RollLemmas.{insert-with_standing, without-removed, fold_from-push}
use Rattle.council_core.proofs.MirrorLemmas.{Kept, IsMirror, Loss, Gain, Exchange, Mirrors-open, Mirrors-close, Mirrors-update, Mirrors-admit, Mirrors-withdraw, own_seats}
use Rattle.council_core.proofs.StoreLemmas.{take_next}

-- the change of a command is carried out
module _ (roll : Roll) (command : Command) (kept : Kept) (m : IsMirror roll kept) where
  abbrev IsAfter : Kept → Type 0
  IsAfter now = IsMirror (next_roll roll command) now

  stepped : (next : Roll) → step roll command ≡ Ok next → (now : Kept) → IsMirror next now → IsAfter now
  stepped next steps now is = subst (λ (r : Roll). IsMirror r now) (sym (ap (λ r. result_unwrap_or r roll) steps)) is

  -- a chair is opened
  pub carried-open : (k c : ℕ) → k + 1 ≡ c → k < 32 → k < length kept.totals.words → OpensChair roll command c
      → IsAfter (record kept { totals = record kept.totals { words = slice_set kept.totals.words k 1 } })
  carried-open k c index small within opening =
      let now : Kept = record kept { totals = record kept.totals { words = slice_set kept.totals.words k 1 } } in
      let is = Mirrors-open roll kept m k small within (ap (is_open roll) index ∙ opening.shut) in
      stepped (roll_with_open roll c) opening.effect now (subst (λ (d : ℕ). IsMirror (roll_with_open roll d) now) index is)

  -- a chair is closed
  pub carried-close : (k c : ℕ) → k + 1 ≡ c → k < 32 → k < length kept.totals.words → ClosesChair roll command c
      → IsAfter (record kept { totals = record kept.totals { words = slice_set kept.totals.words k 0 } })
  carried-close k c index small within closing =
      let now : Kept = record kept { totals = record kept.totals { words = slice_set kept.totals.words k 0 } } in
      let is = Mirrors-close roll kept m k small within (ap (has_members roll) index ∙ closing.empty) in
      stepped (roll_with_closed roll c) closing.effect now (subst (λ (d : ℕ). IsMirror (roll_with_closed roll d) now) index is)

  -- a member's standing is changed
  pub carried-change : (index : ℕ) (old new : Standing) → (code : List ℕ) × (index_among code roll.members ≡ Some index) × UpdatesMember roll command code old new
      → (now : Kept) → Exchange kept.totals now.totals old new → now.entries ≡ set_value_at kept.entries index new → IsAfter now
  carried-change index old new planned now x put =
      let es : List RollEntry = kept.entries in
      let code = planned.0 in
      let change = planned.2 in
      let there : standing_among code es ≡ Some old = ap (standing_among code) m.same_members ∙ change.known in
      let at : index_among code es ≡ Some index = ap (index_among code) m.same_members ∙ planned.1 in
      let first = (Found-position (same_code code) es index at).first in
      let same : now.entries ≡ with_standing code new es = put ∙ sym (insert_entry-first same_code code new es index first) ∙ insert-with_standing code new es old there in
      let next : Roll = record roll { members = with_standing code new roll.members } in
      let is = Mirrors-update roll kept m code old new change.known change.seat now.totals x in
      stepped next change.effect now (subst (λ (e : List RollEntry). IsMirror next (record kept { entries = e; totals = now.totals })) (sym same) is)

  -- a member is entered
  pub carried-admit : (code : List ℕ) (votes : ℕ) → EntersMember roll command code votes
      → (now : Kept) → Gain kept.totals now.totals (new_standing votes) → now.entries ≡ kept.entries ++ new_entry (code, votes) ∷ [] → IsAfter now
  carried-admit code votes entry now gain put =
      let is = Mirrors-admit roll kept m code votes entry.room now.totals gain in
      stepped (roll_with_member roll code votes) entry.effect now (subst (λ (e : List RollEntry). IsMirror (roll_with_member roll code votes) (record kept { entries = e; totals = now.totals })) (sym put) is)

  -- a member leaves
  pub carried-withdraw : (index : ℕ) (old : Standing) → (code : List ℕ) × (index_among code roll.members ≡ Some index) × RemovesMember roll command code old
      → (now : Kept) → Loss kept.totals now.totals old → now.entries ≡ remove kept.entries index → IsAfter now
  carried-withdraw index old planned now loss put =
      let es : List RollEntry = kept.entries in
      let code = planned.0 in
      let leaving = planned.2 in
      let at : index_among code es ≡ Some index = ap (index_among code) m.same_members ∙ planned.1 in
      let first = (Found-position (same_code code) es index at).first in
      let same : now.entries ≡ members_without code es = put ∙ sym (remove_entry-first (same_code code) es index first) ∙ sym (without-removed code es) in
      let is = Mirrors-withdraw roll kept m code old leaving.known leaving.unseated now.totals loss in
      stepped (roll_without_member roll code) leaving.effect now (subst (λ (e : List RollEntry). IsMirror (roll_without_member roll code) (record kept { entries = e; totals = now.totals })) (sym same) is)

-- a change that is due, said of the change in place of its match
pub due_as : (entries : List RollEntry) (totals : ChairTotals) (x y : Change) → x ≡ y → IsDue entries totals x → IsDue entries totals y
due_as entries totals x y is due = subst (λ (z : Change). IsDue entries totals z) is due

pub planned_at : (roll : Roll) (command : Command) (x y : Change) → x ≡ y → IsPlanned roll command x → IsPlanned roll command y
planned_at roll command x y is planned = subst (λ (z : Change). IsPlanned roll command z) is planned

-- the roll after one more command of a list
pub fold_from-next : (roll : Roll) (commands : List Command) (i : ℕ) (command : Command) → i < length commands → command ≡ get_or commands i command
    → fold_from roll (take (i + 1) commands) ≡ next_roll (fold_from roll (take i commands)) command
fold_from-next roll commands i command within at =
    let one : i + 1 ≡ suc i = omega arith in
    ap (λ n. fold_from roll (take n commands)) one ∙ ap (fold_from roll) (take_next commands i command within at) ∙ fold_from-push roll (take i commands) command

refused_if : (b : Bool) (e : Refusal) (next : Result Roll Refusal) → is_ok (cond b (Err e) next) ≡ true → cond b (Err e) next ≡ next
refused_if true e next ok = absurd (true≢false (sym ok))
refused_if false e next ok = refl

refused_unless : (b : Bool) (e : Refusal) (next : Result Roll Refusal) → is_ok (cond b next (Err e)) ≡ true → cond b next (Err e) ≡ next
refused_unless true e next ok = refl
refused_unless false e next ok = absurd (true≢false (sym ok))

-- an accepted command gives a member a new standing in the same chair
module _ (roll : Roll) (kept : Kept) (m : IsMirror roll kept) (code : List ℕ) (old : Standing) (found : standing_among code kept.entries ≡ Some old) where
  known : standing_among code roll.members ≡ Some old
  known = ap (standing_among code) (sym m.same_members) ∙ found

  seat : can_receive roll old.chair ≡ true
  seat = own_seats roll code m.closed_empty (Some old) (sym known)

  of_member : (f : Standing → Result Roll Refusal) → with_member roll code f ≡ f old
  of_member f = ap (λ o. option_map_or f o (Err UnknownMember)) known

  pub sets_votes : (votes : ℕ) → UpdatesMember roll (SetVotes code votes) code old (record old { votes = votes })
  sets_votes votes = record { known = known; seat = seat; effect = of_member (λ s. update roll code (record s { votes = votes })) }

  pub suspends : is_ok (step roll (Suspend code)) ≡ true → UpdatesMember roll (Suspend code) code old (record old { suspended = true })
  suspends ok =
      let is = of_member (suspend_member roll code) in
      record { known = known; seat = seat; effect = is ∙ refused_if old.suspended AlreadySuspended _ (sym (ap is_ok is) ∙ ok) }

  pub restores : is_ok (step roll (Restore code)) ≡ true → UpdatesMember roll (Restore code) code old (record old { suspended = false })
  restores ok =
      let is = of_member (restore_member roll code) in
      record { known = known; seat = seat; effect = is ∙ refused_unless old.suspended NotSuspended _ (sym (ap is_ok is) ∙ ok) }

  -- that of another name of the command
  pub change_as : (x y : Command) (index : ℕ) (new : Standing) → x ≡ y → index_among code kept.entries ≡ Some index → UpdatesMember roll y code old new
      → IsPlanned roll x (change.Update index old new)
  change_as x y index new is at change =
      (code, ap (index_among code) (sym m.same_members) ∙ at, subst (λ (z : Command). UpdatesMember roll z code old new) (sym is) change)
