-- What the laws of rolls and sheets rest on.
use Rattle.std.proofs.Common.{◌≡◌, ℕ, ◌+◌, ◌-◌, ◌^◌, ◌<◌, ◌≤◌, Bool, true, false, cond, List, [], ◌∷◌, length, map, take, sum_by, Option, None, Some, Result, Ok, Err, refl, sym, ap, ◌∙◌, subst, arith, All, if◌then◌else◌, slice_index, is_some, length-append}
use Rattle.std.specs.Prelude.{nat_le}
use Rattle.std.specs.List.{AllByRecursion}
use Rattle.std.specs.Result.{result_unwrap_or}
use Rattle.std.specs.Option.{option_map_or}
use Rattle.std.proofs.lemmas.List.{length-take-le, take_at, length-map}
use Rattle.std.proofs.lemmas.List.FromFn.{get_or-map-range_with_len}
use Rattle.std.proofs.lemmas.Bool.Decides.{nat_tests}
use Rattle.std.proofs.lemmas.List.Elements.{All-append, All-from_recursion, recursion_from_All}
use Rattle.std.proofs.lemmas.List.Sums.{sum_by-cons}
use Rattle.council_core.specs.declared.commands.Command.{Command}
use Rattle.council_core.specs.declared.commands.Command.TheVariants.{Open, Close, Move, SetVotes, Suspend, Restore, Admit, Withdraw}
use Rattle.council_core.specs.declared.commands.Standing.{Standing}
use Rattle.council_core.specs.declared.limits.TheConstants.{MAX_MEMBERS}
use Rattle.council_core.specs.declared.refusals.Refusal.{Refusal}
use Rattle.council_core.specs.declared.refusals.Refusal.TheVariants.{ChairOpen, ChairNotOpen, ChairHasMembers, UnknownMember, MemberSuspended, AlreadyThere, AlreadySuspended, NotSuspended, TooManyMembers, MemberExists, MemberSeated}
use Rattle.council_core.specs.Rolls.{Roll, RollEntry, Opening, IsLegal, next_roll, cast, can_receive, chair_numbers, chair_word, roll_with_closed, fold_from, has_members, is_open, move_member, opening_roll, roll_after, same_chair, same_code, sheet, standing_among, step, total, update, weight, with_member, roll_without_member, sheet_words, admit_member, roll_with_member, new_entry}
use Rattle.council_core.specs.Sheets.{IsSheet, cast_of, front_of, weight_in}
use Rattle.council_core.specs.Laws.{IsOpening, SetsInRange}
use Rattle.council_core.specs.Ledgers.{Ledger, roll_of, sheet_of}
use Rattle.council_core.proofs.AssembleLemmas.{IsSheet-made}
use Rattle.council_core.proofs.MirrorLemmas.{Kept, IsBeside}
use Rattle.council_core.proofs.RegisterLemmas.{total_within, weight_within}
use Rattle.council_core.proofs.RollLemmas.{all_with_standing, all_without, length-with_standing, length-without}
use Rattle.council_core.proofs.SheetOfLemmas.{cast_within}
use Rattle.council_core.proofs.StartLemmas.{start_small}

word_of_open : (roll : Roll) (c : ℕ) → chair_word roll c - 1 ≡ (if is_open roll c then weight roll c else 0)
word_of_open roll c = elim (is_open roll c) as (λ b. cond b (weight roll c + 1) 0 - 1 ≡ cond b (weight roll c) 0) [ true ↦ omega arith | false ↦ refl ]

words_cast : (roll : Roll) (ns : List ℕ) → sum_by (λ c. if is_open roll c then weight roll c else 0) ns ≡ sum_by weight_in (map (chair_word roll) ns)
words_cast roll [] = refl
words_cast roll (c ∷ ns) = omega (arith, word_of_open roll c, words_cast roll ns, sum_by-cons (λ (d : ℕ). if is_open roll d then weight roll d else 0) c ns, sum_by-cons weight_in (chair_word roll c) (map (chair_word roll) ns))

pub cast-sheet : (roll : Roll) (front : ℕ) → cast roll ≡ cast_of (sheet_words roll front)
cast-sheet roll front =
    words_cast roll chair_numbers ∙ sym (ap (sum_by weight_in) (take_at (map (chair_word roll) chair_numbers) (total roll ∷ front ∷ []) 32 refl))

-- the last of a sheet's numbers
pub front-sheet : (opening : Opening) (commands : List Command) → front_of (sheet opening commands) ≡ length commands
front-sheet opening commands = refl

pub front_of_first : (opening : Opening) (commands : List Command) (front : ℕ) → front ≤ length commands → front_of (sheet opening (take front commands)) ≡ front
front_of_first opening commands front within = front-sheet opening (take front commands) ∙ length-take-le front commands within

-- a roll of few members, none with more votes than a member may have
record IsSmall (roll : Roll) : Type 0 where
  pub bound : length roll.members ≤ 256
  pub small : All (λ m. m.1.votes ≤ 2 ^ 40) roll.members

-- the same of the roll that a step gives, if it gives one
abbrev GivesSmall : Result Roll Refusal → Type 0
GivesSmall (Ok roll) = IsSmall roll
GivesSmall (Err e) = Unit {0}

or_refused : (b : Bool) (e : Refusal) (next : Result Roll Refusal) → GivesSmall next → GivesSmall (if b then next else Err e)
or_refused true e next h = h
or_refused false e next h = tt

unless_refused : (b : Bool) (e : Refusal) (next : Result Roll Refusal) → GivesSmall next → GivesSmall (if b then Err e else next)
unless_refused true e next h = tt
unless_refused false e next h = h

not_full : (n : ℕ) → nat_le MAX_MEMBERS n ≡ false → n < MAX_MEMBERS
not_full n h = grind (arith, nat_tests, h)

module _ (roll : Roll) (small : IsSmall roll) where
  opened_small : (chairs : List ℕ) → IsSmall (record roll { open_chairs = chairs })
  opened_small chairs = record { bound = small.bound; small = small.small }

  updated_small : (code : List ℕ) (s : Standing) → s.votes ≤ 2 ^ 40 → GivesSmall (update roll code s)
  updated_small code s h = record { bound = rw length-with_standing small.bound; small = all_with_standing code s (λ t. t.votes ≤ 2 ^ 40) roll.members small.small h }

  found_small : (code : List ℕ) (es : List RollEntry) → AllByRecursion (λ m. m.1.votes ≤ 2 ^ 40) es → (s : Standing) → standing_among code es ≡ Some s → s.votes ≤ 2 ^ 40
  found_small code [] h s found = cc
  found_small code (e ∷ es) h s found =
      elim (same_code code e.0) as (λ b. cond b (Some e.1) (standing_among code es) ≡ Some s → s.votes ≤ 2 ^ 40) [
        | true ↦ λ q. let same : e.1 ≡ s = cc in subst (λ (t : Standing). t.votes ≤ 2 ^ 40) same h.0
        | false ↦ λ q. found_small code es h.1 s q
      ] found

  member_small : (code : List ℕ) (f : Standing → Result Roll Refusal) → ((s : Standing) → s.votes ≤ 2 ^ 40 → GivesSmall (f s)) → GivesSmall (with_member roll code f)
  member_small code f h =
      elim (standing_among code roll.members) as (λ o. standing_among code roll.members ≡ o → GivesSmall (option_map_or f o (Err UnknownMember)))
      [ Some s ↦ λ found. h s (found_small code roll.members (recursion_from_All _ _ small.small) s found) | None ↦ λ none. tt ] refl

  moved_small : (code : List ℕ) (to : Option ℕ) (s : Standing) → s.votes ≤ 2 ^ 40 → GivesSmall (move_member roll code to s)
  moved_small code to s h =
      unless_refused s.suspended MemberSuspended _
      (or_refused (can_receive roll to) ChairNotOpen _ (unless_refused (same_chair s.chair to) AlreadyThere _ (updated_small code (record s { chair = to }) h)))

  left_small : (code : List ℕ) → IsSmall (roll_without_member roll code)
  left_small code =
      record {
        bound = omega (arith, small.bound, length-without code roll.members);
        small = all_without code (λ (t : Standing). t.votes ≤ 2 ^ 40) roll.members small.small;
      }

  entered_small : (code : List ℕ) (n : ℕ) → n ≤ 2 ^ 40 → length roll.members < MAX_MEMBERS → IsSmall (roll_with_member roll code n)
  entered_small code n h room =
      record {
        bound = rw length-append (omega (arith, room));
        small = All-append (λ (m : RollEntry). m.1.votes ≤ 2 ^ 40) roll.members (new_entry (code, n) ∷ []) small.small (All-from_recursion (λ (m : RollEntry). m.1.votes ≤ 2 ^ 40) (new_entry (code, n) ∷ []) (h, tt));
      }

  admitted_small : (code : List ℕ) (n : ℕ) → n ≤ 2 ^ 40 → GivesSmall (admit_member roll code n)
  admitted_small code n h =
      unless_refused (is_some (standing_among code roll.members)) MemberExists _
      (elim (nat_le MAX_MEMBERS (length roll.members)) as (λ b. nat_le MAX_MEMBERS (length roll.members) ≡ b → GivesSmall (if b then Err TooManyMembers else Ok (roll_with_member roll code n)))
      [ true ↦ λ e. tt | false ↦ λ e. entered_small code n h (not_full (length roll.members) e) ] refl)

  step_small : (command : Command) → SetsInRange command → GivesSmall (step roll command)
  step_small (Open c) h = unless_refused (is_open roll c) ChairOpen _ (opened_small (c ∷ roll.open_chairs))
  step_small (Close c) h = or_refused (is_open roll c) ChairNotOpen _ (unless_refused (has_members roll c) ChairHasMembers _ (opened_small (roll_with_closed roll c).open_chairs))
  step_small (Move code to) h = member_small code (move_member roll code to) (moved_small code to)
  step_small (SetVotes code n) h = member_small code (λ s. update roll code (record s { votes = n })) (λ s k. updated_small code (record s { votes = n }) h)
  step_small (Suspend code) h = member_small code _ (λ s k. unless_refused s.suspended AlreadySuspended _ (updated_small code (record s { suspended = true }) k))
  step_small (Restore code) h = member_small code _ (λ s k. or_refused s.suspended NotSuspended _ (updated_small code (record s { suspended = false }) k))
  step_small (Admit code n) h = admitted_small code n h
  step_small (Withdraw code) h = member_small code _ (λ s k. unless_refused (is_some s.chair) MemberSeated _ (left_small code))

  unwrapped_small : (next : Result Roll Refusal) → GivesSmall next → IsSmall (result_unwrap_or next roll)
  unwrapped_small (Ok r) h = h
  unwrapped_small (Err e) h = small

fold_small : (roll : Roll) (commands : List Command) → IsSmall roll → AllByRecursion SetsInRange commands → IsSmall (fold_from roll commands)
fold_small roll [] small h = small
fold_small roll (command ∷ rest) small h = fold_small (next_roll roll command) rest (unwrapped_small roll small (step roll command) (step_small roll small command h.0)) h.1

start_is_small : (opening : Opening) → IsOpening opening → IsSmall (opening_roll opening)
start_is_small opening is =
    record { bound = rw length-map is.bound; small = All-from_recursion _ _ (start_small opening (recursion_from_All _ _ is.small)) }

word_within : (roll : Roll) (c : ℕ) → total roll ≤ 2 ^ 48 → chair_word roll c ≤ 2 ^ 48 + 1
word_within roll c h = elim (is_open roll c) as (λ b. cond b (weight roll c + 1) 0 ≤ 2 ^ 48 + 1) [ true ↦ omega (arith, h, weight_within roll c) | false ↦ omega arith ]

-- the numbers of a small roll, after at most a million commands
small_sheet : (roll : Roll) (front : ℕ) → IsSmall roll → front ≤ 1000000 → IsSheet (sheet_words roll front)
small_sheet roll front small bound =
    let all = total_within roll small.bound small.small in
    IsSheet-made (map (chair_word roll) chair_numbers) (total roll) front refl (λ k h. each k h all) (cast_within roll) all bound
  where
    each : (k : ℕ) → k < 32 → total roll ≤ 2 ^ 48 → slice_index (map (chair_word roll) chair_numbers) k ≤ 2 ^ 48 + 1
    each k h all = subst (λ (w : ℕ). w ≤ 2 ^ 48 + 1) (sym (get_or-map-range_with_len (chair_word roll) 1 32 k (k + 1) 0 h (omega arith))) (word_within roll (k + 1) all)

-- the numbers of the sheet of what a register keeps
pub sheet_kept : (l : Ledger) (kept : Kept) → IsBeside l kept → IsSheet (sheet_of l)
sheet_kept l kept k =
    let m = k.mirrors in
    small_sheet (roll_of l) (length l.journal)
    record {
      bound = subst (λ (es : List RollEntry). length es ≤ 256) m.same_members m.bound;
      small = subst (λ (es : List RollEntry). All (λ e. e.1.votes ≤ 2 ^ 40) es) m.same_members m.small;
    }
    (omega (arith, k.within, k.small_limit))

pub IsSheet-sheet : (opening : Opening) (commands : List Command) → IsOpening opening → All SetsInRange commands → IsLegal opening commands → IsSheet (sheet opening commands)
IsSheet-sheet opening commands is sets legal =
    small_sheet (roll_after opening commands) (length commands)
    (fold_small (opening_roll opening) commands (start_is_small opening is) (recursion_from_All _ _ sets)) legal.1
