-- The members of an input, one record at a time.
use Rattle.std.proofs.Common.{◌≡◌, ◌⊎◌, inl, inr, ◌+◌, ℕ, zero, suc, Bool, true, false, not, List, [], ◌∷◌, ◌++◌, length, take, Option, Some, None, Result, Err, IfOk, refl, sym, ap, ◌∙◌, append_assoc, append-nil, if◌then◌else◌, nat_lt}
use Rattle.std.specs.Prelude.{filter_map}
use Rattle.std.specs.List.{before_first, list_any, position_from}
use Rattle.std.proofs.lemmas.Bool.{ltb-false}
use Rattle.std.proofs.lemmas.List.{take_all}
use Rattle.std.proofs.lemmas.List.Sums.{take_while-cons}
use Rattle.council_core.specs.Rolls.{Opening}
use Rattle.council_core.specs.declared.limits.TheConstants.{MAX_MEMBERS}
use Rattle.board_text.specs.Requests.{Row, is_header, is_mark, member_of}
use Rattle.board_text.specs.Text.{Preamble, before_mark, is_no_member, members_before, members_in, preamble_of, preamble_after_header, unless_bad}
use Rattle.board_text.specs.declared.faults.Fault.{Fault}
use Rattle.board_text.specs.declared.stops.Stop.{Stop}
use Rattle.board_text.specs.declared.stops.Stop.TheVariants as stop
use Rattle.board_text.specs.Output.{IsPrefixOf, ReadTo}
use Rattle.board_text.proofs.OpeningFacts.{front-more}
use Rattle.board_text.proofs.RunFacts.{front-none}

pub front-whole : {A : Type 0} (xs : List A) → IsPrefixOf xs xs
front-whole xs = ([], sym (append-nil xs))

-- the members read in all, after `members` were read and at most `room` more are allowed
unfoldable pub members_after : Opening → ℕ → List Row → Opening
members_after members room rows = members ++ filter_map member_of (before_first is_no_member (take room (before_mark rows)))

pub members-start : (rs : List Row) → members_before rs ≡ members_after [] MAX_MEMBERS rs
unfolding members_before members_after
members-start rs = refl

none-before : (members : Opening) (room : ℕ) → members ++ filter_map member_of (before_first is_no_member (take room [])) ≡ members
none-before members zero = append-nil members
none-before members (suc room) = append-nil members

-- the records before the first that is no member's, where the first is a member's
good-more : (r : Row) (rs : List Row) → is_no_member r ≡ false → before_first is_no_member (r ∷ rs) ≡ r ∷ before_first is_no_member rs
good-more r rs good = take_while-cons (λ row. not (is_no_member row)) r rs ∙ rw good refl

module _ (members : Opening) (room : ℕ) (rs : List Row) where
  pub before-ends : rs ≡ [] → members_after members room rs ≡ members
  unfolding members_after
  before-ends e = rw e (none-before members room)

  module _ (r : Row) (ss : List Row) (next : rs ≡ r ∷ ss) where
    pub before-mark : is_mark r ≡ true → members_after members room rs ≡ members
    unfolding members_after
    before-mark mark = rw (next, mark) (none-before members room)

    pub before-full : room ≡ 0 → members_after members room rs ≡ members
    unfolding members_after
    before-full full = rw full (append-nil members)

    module _ (left : ℕ) (mark : is_mark r ≡ false) (more : room ≡ suc left) where
      pub before-bad : member_of r ≡ None → members_after members room rs ≡ members
      unfolding members_after
      before-bad bad = rw (next, more, front-more r ss mark, bad) (append-nil members)

      pub before-member : (m : List ℕ × ℕ) → member_of r ≡ Some m → members_after members room rs ≡ members_after (members ++ m ∷ []) left ss
      unfolding members_after
      before-member m found =
          let good : is_no_member r ≡ false = rw found refl in
          rw (next, more, front-more r ss mark, good-more r (take left (before_mark ss)) good, found) (sym (append_assoc members (m ∷ []) _))

-- the members so far are the first of all
pub before-front : (members : Opening) (room : ℕ) (rs : List Row) → IsPrefixOf members (members_after members room rs)
unfolding members_after
before-front members room rs = (filter_map member_of (before_first is_no_member (take room (before_mark rs))), refl)

-- where memory ran out, the members so far are a part
broken-stop : (e : Stop) (ms all : Opening) → IsPrefixOf ms all → (e ≡ stop.OutOfMemory) ⊎ (e ≡ stop.ReadFault) → ReadTo {T = ℕ} (Err e) ms all
broken-stop e ms all front (inl is) = rw is front
broken-stop e ms all front (inr is) = rw is front

pub front-broken : (e d : Stop) (ms : Opening) (room : ℕ) (rs : List Row) (all : Opening) → (e ≡ stop.OutOfMemory) ⊎ (e ≡ stop.ReadFault) → d ≡ e → all ≡ members_after ms room rs → ReadTo {T = ℕ} (Err d) ms all
front-broken e d ms room rs all causes same is = rw (same, is) (broken-stop e ms _ (before-front ms room rs) causes)

pub front-memory : (d : Stop) (ms : Opening) (room : ℕ) (rs : List Row) (all : Opening) → d ≡ stop.OutOfMemory → all ≡ members_after ms room rs → ReadTo {T = ℕ} (Err d) ms all
front-memory d ms room rs all same is = rw (same, is) (before-front ms room rs)

-- where memory ran out before the first, none were read
pub none-broken : (e d : Stop) (ms all : Opening) → (e ≡ stop.OutOfMemory) ⊎ (e ≡ stop.ReadFault) → d ≡ e → ms ≡ [] → ReadTo {T = ℕ} (Err d) ms all
none-broken e d ms all causes same none = rw (same, none) (broken-stop e [] all (front-none all) causes)

-- where each record is a member's, all stand before the first that is none's
none-bad : (k : ℕ) (rs : List Row) → position_from is_no_member k rs ≡ None → before_first is_no_member rs ≡ rs
none-bad k [] none = refl
none-bad k (r ∷ rs) none =
    elim (is_no_member r) as (λ b. is_no_member r ≡ b → before_first is_no_member (r ∷ rs) ≡ r ∷ rs) [
      | true ↦ λ bad. absurd (let e = rw bad at none in cc e)
      | false ↦ λ good. good-more r rs good ∙ ap (λ (xs : List Row). r ∷ xs) (none-bad (k + 1) rs (rw good at none))
    ] refl

-- where the opening was read, its members are those
abbrev Same : Opening → Result Preamble Fault → Type 0
Same got r = IfOk r (λ o. got ≡ o.0)

same-unless : (got : Opening) (bad : Option ℕ) (more : Result Preamble Fault) → (bad ≡ None → Same got more) → Same got (unless_bad bad more)
same-unless got None more same = same refl
same-unless got (Some number) more same = tt

same-either : (got : Opening) (b : Bool) (p q : Result Preamble Fault) → (b ≡ true → Same got p) → (b ≡ false → Same got q) → Same got (if b then p else q)
same-either got true p q h i = h refl
same-either got false p q h i = i refl

same-before : (rs : List Row) → Same (members_before rs) (preamble_after_header rs)
unfolding members_before preamble_after_header
same-before rs =
    same-unless _ _ _ (λ none.
    same-either _ (nat_lt MAX_MEMBERS (length (before_mark rs))) _ _ (λ full. tt) (λ fits.
    same-either _ (list_any is_mark rs) _ _ (λ marked. ap (filter_map member_of)
    (none-bad 2 _ none ∙ take_all MAX_MEMBERS (before_mark rs) (ltb-false MAX_MEMBERS _ fits))) (λ unmarked. tt)))

same-start : (b : Bool) (rs : List Row) (f : Fault) → Same (if b then members_before rs else []) (if b then preamble_after_header rs else Err f)
same-start true rs f = same-before rs
same-start false rs f = tt

pub members-opened : (rs : List Row) → IfOk (preamble_of rs) (λ o. members_in rs ≡ o.0)
members-opened [] = tt
members-opened (r ∷ rs) = same-start (is_header r) rs _
