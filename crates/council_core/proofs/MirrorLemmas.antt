-- What a register keeps stays what the roll says.
use Rattle.std.proofs.Common.{◌≡◌, ℕ, ◌+◌, ◌^◌, ◌<◌, ◌≤◌, ◌==◌, Bool, true, false, cond, not, ◌&&◌, ◌||◌, List, [], ◌∷◌, ◌++◌, length, sum_by, filter, Option, None, Some, IfSome, is_ok, sym, ◌∙◌, ap, subst, refl, arith, true≢false, slice_index, slice_set, length-append}
use borrow.Author.Tests.{eqb-true}
use Rattle.std.specs.List.{list_any}
use Rattle.indexmap.specs.IndexMap.{IndexMap, spare}
use Rattle.std.proofs.lemmas.Grind.{common_steps}
use Rattle.std.proofs.lemmas.Bool.Decides.{nat_tests}
use Rattle.std.proofs.lemmas.List.Elements.{All-append, All-from_recursion}
use Rattle.std.proofs.lemmas.List.Sums.{sum_by-append, sum_by-cons}
use Rattle.council_core.specs.declared.commands.Standing.{Standing}
use Rattle.council_core.specs.declared.limits.TheConstants.{MAX_MEMBERS}
use Rattle.council_core.specs.declared.registers.Register.TheInside.{Inside}
use Rattle.council_core.specs.declared.totals.ChairTotals.{ChairTotals}
use Rattle.council_core.specs.Rolls.{Roll, RollEntry, same_chair, standing_among, with_standing, members_without, new_entry, new_standing, roll_with_member, roll_without_member, sits_in, effective_votes, votes_in, weight, is_open, chair_word, can_receive, has_members, step, next_roll, opening_roll}
use Rattle.council_core.specs.declared.commands.Command.{Command}
use Rattle.council_core.specs.Ledgers.{Ledger, roll_of, ledger_with}
use Rattle.council_core.specs.Laws.{SetsInRange}
use Rattle.council_core.specs.Registers.{Mirrors, IsKept, members_in_chair, sits_as}
use Rattle.council_core.proofs.RollLemmas.{fold_from-push, all_accepted-push, sum_with_standing, sum_without, part_of_sum, length-with_standing, length-without, all_with_standing, all_without}

-- what a register stores in addition to its journal: its members, the room for more, and the running
-- numbers of the chairs
pub record Kept : Type 0 where
  pub entries : List RollEntry
  pub spare : ℕ
  pub totals : ChairTotals

abbrev pub kept_in : {S : Type 0} → IndexMap (List ℕ) Standing S → ChairTotals → Kept
kept_in members totals = record { entries = members.entries; spare = spare members; totals = totals }

-- what the fields of a register keep
abbrev pub kept_of : Inside → Kept
kept_of r = kept_in r.members r.totals

-- what is kept is what the roll says
abbrev pub IsMirror : Roll → Kept → Type 0
IsMirror roll kept = Mirrors roll kept.entries kept.totals.words kept.totals.counts kept.totals.total

-- what is stored agrees with this ledger
abbrev pub IsBeside : Ledger → Kept → Type 0
IsBeside l kept = IsKept l kept.entries kept.spare kept.totals.words kept.totals.counts kept.totals.total

-- the running numbers lose what a standing gave them
pub record Loss (before after : ChairTotals) (old : Standing) : Type 0 where
  pub words : (k : ℕ) → k < 32 → slice_index after.words k + votes_in (k + 1) old ≡ slice_index before.words k
  pub counts : (k : ℕ) → k < 32 → slice_index after.counts k + sits_as (k + 1) old ≡ slice_index before.counts k
  pub total : after.total + effective_votes old ≡ before.total

-- the running numbers gain what a standing gives them, and its votes are in range
pub record Gain (before after : ChairTotals) (new : Standing) : Type 0 where
  pub words : (k : ℕ) → k < 32 → slice_index after.words k ≡ slice_index before.words k + votes_in (k + 1) new
  pub counts : (k : ℕ) → k < 32 → slice_index after.counts k ≡ slice_index before.counts k + sits_as (k + 1) new
  pub total : after.total ≡ before.total + effective_votes new
  pub high : new.votes ≤ 2 ^ 40

-- in the running numbers one standing gives way to another, with votes in range
pub record Exchange (before after : ChairTotals) (old new : Standing) : Type 0 where
  pub words : (k : ℕ) → k < 32 → slice_index after.words k + votes_in (k + 1) old ≡ slice_index before.words k + votes_in (k + 1) new
  pub counts : (k : ℕ) → k < 32 → slice_index after.counts k + sits_as (k + 1) old ≡ slice_index before.counts k + sits_as (k + 1) new
  pub total : after.total + effective_votes old ≡ before.total + effective_votes new
  pub high : new.votes ≤ 2 ^ 40

-- a loss and then a gain are an exchange
pub exchange : (before between after : ChairTotals) (old new : Standing) → Loss before between old → Gain between after new → Exchange before after old new
exchange before between after old new loss gain =
    record {
      words = λ k h. omega (arith, loss.words k h, gain.words k h);
      counts = λ k h. omega (arith, loss.counts k h, gain.counts k h);
      total = omega (arith, loss.total, gain.total);
      high = gain.high;
    }

pub no_one : (b : Bool) → ◌≡◌ {A = ℕ} (cond b 1 0) 0 → b ≡ false
no_one true h = absurd (omega (arith, h))
no_one false h = refl

-- a chair with no members has no weight
pub empty_weight : (c : ℕ) (es : List RollEntry) → members_in_chair es c ≡ 0 → sum_by (λ m. votes_in c m.1) es ≡ 0
empty_weight c [] h = refl
empty_weight c (e ∷ es) h =
    let split = sum_by-cons (λ (m : RollEntry). sits_as c m.1) e es in
    let rest : members_in_chair es c ≡ 0 = omega (arith, split) in
    let here : sits_as c e.1 ≡ 0 = omega (arith, split) in
    let none : votes_in c e.1 ≡ 0 = ap (λ b. cond b (effective_votes e.1) 0) (no_one (sits_in c e.1) here) in
    omega (arith, none, empty_weight c es rest, sum_by-cons (λ (m : RollEntry). votes_in c m.1) e es)

same_number : (d : ℕ) → (d == d) ≡ true
same_number d = grind (arith, nat_tests)

-- who sits in an open chair, or in none, sits in no closed one
pub seat_is_open : (roll : Roll) (chair : Option ℕ) (c : ℕ) → can_receive roll chair ≡ true → is_open roll c ≡ false → same_chair chair (Some c) ≡ false
seat_is_open roll None c fits shut = refl
seat_is_open roll (Some d) c fits shut =
    elim (d == c) as (λ b. (d == c) ≡ b → b ≡ false) [ true ↦ λ e. absurd (true≢false (sym fits ∙ ap (is_open roll) (eqb-true d c e) ∙ shut)) | false ↦ λ e. refl ] refl

-- and no member sits in an empty one
pub seat_is_free : (c : ℕ) (roll : Roll) (code : List ℕ) (s : Standing) → standing_among code roll.members ≡ Some s → members_in_chair roll.members c ≡ 0 → sits_in c s ≡ false
seat_is_free c roll code s found none =
    let here : sits_as c s ≡ 0 = omega (arith, part_of_sum code (sits_as c) roll.members s found) in
    no_one (sits_in c s) here

-- a member's own chair is open
pub own_seat : (roll : Roll) (code : List ℕ) (s : Standing) → standing_among code roll.members ≡ Some s → ((c : ℕ) → is_open roll c ≡ false → members_in_chair roll.members c ≡ 0)
    → (chair : Option ℕ) → s.chair ≡ chair → can_receive roll chair ≡ true
own_seat roll code s found empty None at = refl
own_seat roll code s found empty (Some d) at =
    elim (is_open roll d) as (λ b. is_open roll d ≡ b → b ≡ true) [
      | true ↦ λ e. refl
      | false ↦ λ e. absurd (true≢false (sym (ap (λ o. same_chair o (Some d)) at ∙ same_number d) ∙ seat_is_free d roll code s found (empty d e)))
    ] refl

pub own_seats : (roll : Roll) (code : List ℕ) → ((c : ℕ) → is_open roll c ≡ false → members_in_chair roll.members c ≡ 0)
    → (o : Option Standing) → o ≡ standing_among code roll.members → IfSome o (λ s. can_receive roll s.chair ≡ true)
own_seats roll code empty None at = tt
own_seats roll code empty (Some s) at = own_seat roll code s (sym at) empty s.chair refl

-- the word of an opened chair
open_word : (roll : Roll) (words : List ℕ) (k j : ℕ) → k < length words → slice_index words j ≡ chair_word roll (j + 1) → weight roll (k + 1) ≡ 0
    → slice_index (slice_set words k 1) j ≡ chair_word (record roll { open_chairs = (k + 1) ∷ roll.open_chairs }) (j + 1)
open_word roll words k j within say none = grind (arith, common_steps, nat_tests, say, none)

not_zero : (n : ℕ) → 0 < n → (n == 0) ≡ false
not_zero n h = grind (arith, nat_tests, h)

-- a chair has members where the number of them isn't 0
pub has_members_is : (c : ℕ) (es : List RollEntry) → list_any (λ m. sits_in c m.1) es ≡ not (members_in_chair es c == 0)
has_members_is c [] = refl
has_members_is c (e ∷ es) =
    let split = sum_by-cons (λ (m : RollEntry). sits_as c m.1) e es in
    elim (sits_in c e.1) as (λ b. members_in_chair (e ∷ es) c ≡ cond b 1 0 + members_in_chair es c → (b || list_any (λ m. sits_in c m.1) es) ≡ not (members_in_chair (e ∷ es) c == 0)) [
      | true ↦ λ q. ap not (sym (not_zero _ (omega (arith, q))))
      | false ↦ λ q. has_members_is c es ∙ ap (λ n. not (n == 0)) (sym (omega (arith, q)))
    ] split

pub no_members : (c : ℕ) (es : List RollEntry) → list_any (λ m. sits_in c m.1) es ≡ false → members_in_chair es c ≡ 0
no_members c es h =
    elim (members_in_chair es c == 0) as (λ b. (members_in_chair es c == 0) ≡ b → not b ≡ false → members_in_chair es c ≡ 0) [ true ↦ λ e q. eqb-true _ _ e | false ↦ λ e q. absurd (true≢false q) ] refl (sym (has_members_is c es) ∙ h)

any_cond : (p : ℕ → Bool) (b : Bool) (xs ys : List ℕ) → list_any p (cond b xs ys) ≡ cond b (list_any p xs) (list_any p ys)
any_cond p true xs ys = refl
any_cond p false xs ys = refl

closed_step : (c d x : ℕ) (l rest : Bool) → l ≡ (not (c == d) && rest) → cond (not (c == x)) ((d == x) || l) l ≡ (not (c == d) && ((d == x) || rest))
closed_step c d x l rest h = grind (arith, nat_tests, h)

-- the open chairs once one is closed
pub is_open-closed : (c d : ℕ) (xs : List ℕ) → list_any (λ e. d == e) (filter (λ e. not (c == e)) xs) ≡ (not (c == d) && list_any (λ e. d == e) xs)
is_open-closed c d [] = elim (c == d) as (λ b. false ≡ (not b && false)) [ true ↦ refl | false ↦ refl ]
is_open-closed c d (x ∷ xs) =
    any_cond (λ e. d == e) (not (c == x)) (x ∷ filter (λ e. not (c == e)) xs) (filter (λ e. not (c == e)) xs)
    ∙ closed_step c d x (list_any (λ e. d == e) (filter (λ e. not (c == e)) xs)) (list_any (λ e. d == e) xs) (is_open-closed c d xs)

-- a chair's word, its weight before and after, and what a change of standing takes from both and brings to both
record WordChange (is_open : Bool) (before after old new word next : ℕ) : Type 0 where
  says : word ≡ cond is_open (before + 1) 0
  weighs : after + old ≡ before + new
  moves : next + old ≡ word + new
  none_old : is_open ≡ false → old ≡ 0
  none_new : is_open ≡ false → new ≡ 0

-- the word after a change of standing
changed_word : (is_open : Bool) (before after old new word next : ℕ) → WordChange is_open before after old new word next → next ≡ cond is_open (after + 1) 0
changed_word true before after old new word next w = omega (arith, w.says, w.weighs, w.moves)
changed_word false before after old new word next w = omega (arith, w.says, w.weighs, w.moves, w.none_old refl, w.none_new refl)

-- a closed chair is opened: it has no members, so its weight is 0
pub Mirrors-open : (roll : Roll) (kept : Kept) → IsMirror roll kept → (k : ℕ) → k < 32 → k < length kept.totals.words → is_open roll (k + 1) ≡ false
    → IsMirror (record roll { open_chairs = (k + 1) ∷ roll.open_chairs }) (record kept { totals = record kept.totals { words = slice_set kept.totals.words k 1 } })
Mirrors-open roll kept m k small within shut =
    record {
      same_members = m.same_members;
      each_word = λ j h. open_word roll kept.totals.words k j within (m.each_word j h) (empty_weight (k + 1) roll.members (m.closed_empty (k + 1) shut));
      each_count = m.each_count;
      same_total = m.same_total;
      closed_empty = λ c. (elim (c == (k + 1)) as (λ b. (b || is_open roll c) ≡ false → members_in_chair roll.members c ≡ 0) [ true ↦ λ e. absurd (true≢false e) | false ↦ λ e. m.closed_empty c e ]);
      bound = m.bound;
      small = m.small;
    }

-- the word of a closed chair
closed_word : (roll : Roll) (words : List ℕ) (k j : ℕ) → k < length words → slice_index words j ≡ chair_word roll (j + 1)
    → slice_index (slice_set words k 0) j ≡ cond (not (k + 1 == j + 1) && is_open roll (j + 1)) (weight roll (j + 1) + 1) 0
closed_word roll words k j within say = grind (arith, common_steps, nat_tests, say)

-- an open chair with no members is closed
pub Mirrors-close : (roll : Roll) (kept : Kept) → IsMirror roll kept → (k : ℕ) → k < 32 → k < length kept.totals.words → has_members roll (k + 1) ≡ false
    → IsMirror (record roll { open_chairs = filter (λ d. not (k + 1 == d)) roll.open_chairs }) (record kept { totals = record kept.totals { words = slice_set kept.totals.words k 0 } })
Mirrors-close roll kept m k small within empty =
    record {
      same_members = m.same_members;
      each_word = λ j h. closed_word roll kept.totals.words k j within (m.each_word j h) ∙ ap (λ b. cond b (weight roll (j + 1) + 1) 0) (sym (is_open-closed (k + 1) (j + 1) roll.open_chairs));
      each_count = m.each_count;
      same_total = m.same_total;
      closed_empty = λ c shut.
          elim (k + 1 == c) as (λ b. (k + 1 == c) ≡ b → (not b && is_open roll c) ≡ false → members_in_chair roll.members c ≡ 0) [
            | true ↦ λ e q. subst (λ d. members_in_chair roll.members d ≡ 0) (eqb-true _ _ e) (no_members (k + 1) roll.members empty)
            | false ↦ λ e q. m.closed_empty c q
          ] refl (sym (is_open-closed (k + 1) c roll.open_chairs) ∙ shut);
      bound = m.bound;
      small = m.small;
    }

-- a member's standing is changed
pub Mirrors-update : (roll : Roll) (kept : Kept) → IsMirror roll kept → (code : List ℕ) (old new : Standing) → standing_among code roll.members ≡ Some old → can_receive roll new.chair ≡ true
    → (after : ChairTotals) → Exchange kept.totals after old new
    → IsMirror (record roll { members = with_standing code new roll.members }) (record kept { entries = with_standing code new kept.entries; totals = after })
Mirrors-update roll kept m code old new known fits after x =
    record {
      same_members = ap (with_standing code new) m.same_members;
      each_word = λ k h.
          changed_word (is_open roll (k + 1)) (weight roll (k + 1)) (sum_by (λ m. votes_in (k + 1) m.1) (with_standing code new roll.members)) (votes_in (k + 1) old) (votes_in (k + 1) new) (slice_index kept.totals.words k) (slice_index after.words k)
          (record {
            says = m.each_word k h;
            weighs = sum_with_standing code new (votes_in (k + 1)) roll.members old known;
            moves = x.words k h;
            none_old = λ shut. ap (λ b. cond b (effective_votes old) 0) (seat_is_free (k + 1) roll code old known (m.closed_empty (k + 1) shut));
            none_new = λ shut. ap (λ b. cond b (effective_votes new) 0) (seat_is_open roll new.chair (k + 1) fits shut);
          });
      each_count = λ k h. omega (arith, sum_with_standing code new (sits_as (k + 1)) roll.members old known, x.counts k h, m.each_count k h);
      same_total = omega (arith, sum_with_standing code new effective_votes roll.members old known, x.total, m.same_total);
      closed_empty = λ c shut.
          let a = sum_with_standing code new (sits_as c) roll.members old known in
          let b : sits_as c new ≡ 0 = ap (λ b. cond b 1 0) (seat_is_open roll new.chair c fits shut) in
          omega (arith, a, b, m.closed_empty c shut);
      bound = rw length-with_standing m.bound;
      small = all_with_standing code new (λ s. s.votes ≤ 2 ^ 40) kept.entries m.small x.high;
    }

-- a member is entered, in no chair
pub Mirrors-admit : (roll : Roll) (kept : Kept) → IsMirror roll kept → (code : List ℕ) (votes : ℕ) → length roll.members < MAX_MEMBERS
    → (after : ChairTotals) → Gain kept.totals after (new_standing votes)
    → IsMirror (roll_with_member roll code votes) (record kept { entries = kept.entries ++ new_entry (code, votes) ∷ []; totals = after })
Mirrors-admit roll kept m code votes room after gain =
    let more : (f : Standing → ℕ) → sum_by (λ e. f e.1) (roll.members ++ new_entry (code, votes) ∷ []) ≡ sum_by (λ e. f e.1) roll.members + (0 + f (new_standing votes))
    = λ f. sum_by-append (λ (e : RollEntry). f e.1) roll.members (new_entry (code, votes) ∷ []) in
    let bound : length kept.entries < MAX_MEMBERS = subst (λ (l : List RollEntry). length l < MAX_MEMBERS) (sym m.same_members) room in
    record {
      same_members = ap (λ (l : List RollEntry). l ++ new_entry (code, votes) ∷ []) m.same_members;
      each_word = λ k h.
          changed_word (is_open roll (k + 1)) (weight roll (k + 1)) (weight (roll_with_member roll code votes) (k + 1)) 0 0 (slice_index kept.totals.words k) (slice_index after.words k)
          (record {
            says = m.each_word k h;
            weighs = omega (arith, more (votes_in (k + 1)));
            moves = omega (arith, gain.words k h);
            none_old = λ shut. refl;
            none_new = λ shut. refl;
          });
      each_count = λ k h. omega (arith, more (sits_as (k + 1)), gain.counts k h, m.each_count k h);
      same_total = omega (arith, more effective_votes, gain.total, m.same_total);
      closed_empty = λ c shut. omega (arith, more (sits_as c), m.closed_empty c shut);
      bound = rw length-append (omega (arith, bound));
      small = All-append (λ (e : RollEntry). e.1.votes ≤ 2 ^ 40) kept.entries (new_entry (code, votes) ∷ []) m.small (All-from_recursion (λ (e : RollEntry). e.1.votes ≤ 2 ^ 40) (new_entry (code, votes) ∷ []) (gain.high, tt));
    }

-- a member that sits in no chair leaves
pub Mirrors-withdraw : (roll : Roll) (kept : Kept) → IsMirror roll kept → (code : List ℕ) (old : Standing) → standing_among code roll.members ≡ Some old → old.chair ≡ None
    → (after : ChairTotals) → Loss kept.totals after old
    → IsMirror (roll_without_member roll code) (record kept { entries = members_without code kept.entries; totals = after })
Mirrors-withdraw roll kept m code old known unseated after loss =
    let no_votes : (c : ℕ) → votes_in c old ≡ 0 = λ c. ap (λ chair. cond (same_chair chair (Some c)) (effective_votes old) 0) unseated in
    let no_seat : (c : ℕ) → sits_as c old ≡ 0 = λ c. ap (λ chair. cond (same_chair chair (Some c)) 1 0) unseated in
    record {
      same_members = ap (members_without code) m.same_members;
      each_word = λ k h.
          changed_word (is_open roll (k + 1)) (weight roll (k + 1)) (weight (roll_without_member roll code) (k + 1)) (votes_in (k + 1) old) 0 (slice_index kept.totals.words k) (slice_index after.words k)
          (record {
            says = m.each_word k h;
            weighs = omega (arith, sum_without code (votes_in (k + 1)) roll.members old known);
            moves = omega (arith, loss.words k h);
            none_old = λ shut. no_votes (k + 1);
            none_new = λ shut. refl;
          });
      each_count = λ k h. omega (arith, sum_without code (sits_as (k + 1)) roll.members old known, loss.counts k h, m.each_count k h);
      same_total = omega (arith, sum_without code effective_votes roll.members old known, loss.total, m.same_total);
      closed_empty = λ c shut. omega (arith, sum_without code (sits_as c) roll.members old known, no_seat c, m.closed_empty c shut);
      bound = omega (arith, m.bound, length-without code kept.entries);
      small = all_without code (λ (s : Standing). s.votes ≤ 2 ^ 40) kept.entries m.small;
    }

-- one more command is accepted, and the rest follows the roll
pub IsKept-appended : (l : Ledger) (kept : Kept) → IsBeside l kept → (command : Command) → is_ok (step (roll_of l) command) ≡ true → length l.journal < l.limit → SetsInRange command
    → (now : Kept) → MAX_MEMBERS ≤ length now.entries + now.spare → IsMirror (next_roll (roll_of l) command) now → IsBeside (ledger_with l command) now
IsKept-appended l kept beside command ok within votes now room m =
    record {
      begun = beside.begun;
      votes = All-append SetsInRange l.journal (command ∷ []) beside.votes (All-from_recursion SetsInRange (command ∷ []) (votes, tt));
      legal = all_accepted-push (opening_roll l.opening) l.journal command ∙ ap (λ b. b && is_ok (step (roll_of l) command)) beside.legal ∙ ok;
      within = rw length-append (omega arith);
      small_limit = beside.small_limit;
      room = room;
      mirrors = subst (λ (r : Roll). IsMirror r now) (sym (fold_from-push (opening_roll l.opening) l.journal command)) m;
    }
