-- The opening, one record at a time.
use Rattle.std.proofs.Common.{◌≡◌, ◌+◌, ℕ, zero, suc, Bool, true, false, not, List, [], ◌∷◌, ◌++◌, length, drop, take, Option, Some, None, Result, Ok, Err, refl, sym, ap, ◌∙◌, arith, append-nil, append_assoc, if◌then◌else◌, nat_lt}
use Rattle.std.specs.Prelude.{filter_map}
use Rattle.std.specs.List.{after_first, list_any, position_from, position_or_len}
use Rattle.std.proofs.lemmas.Bool.{le-ltb, lt-ltb, ltb-false, ltb-true}
use Rattle.std.proofs.lemmas.List.Sums.{take_while-cons}
use Rattle.council_core.specs.Rolls.{Opening}
use Rattle.council_core.specs.declared.limits.TheConstants.{MAX_MEMBERS}
use Rattle.council_core.specs.declared.refusals.Refusal.TheVariants.{BadRecord, NoScript, TooManyMembers}
use Rattle.board_text.specs.Requests.{Row, is_mark, member_of}
use Rattle.board_text.specs.Text.{Preamble, before_mark, fault_at, is_no_member, preamble_after_header, unless_bad}
use Rattle.board_text.specs.declared.faults.Fault.{Fault}

-- the opening, after `members` were read and at most `room` more are allowed; k is the number of the next record
unfoldable pub opening_after : Opening → ℕ → ℕ → List Row → Result Preamble Fault
opening_after members room k rows =
    unless_bad (position_from is_no_member k (take room (before_mark rows)))
    (if nat_lt room (length (before_mark rows)) then Err (fault_at TooManyMembers 0)
    else if list_any is_mark rows
    then Ok (members ++ filter_map member_of (before_mark rows), length (before_mark rows) + (k + 1), after_first is_mark rows)
    else Err (fault_at NoScript 0))

pub opening-starts : (rs : List Row) → preamble_after_header rs ≡ opening_after [] MAX_MEMBERS 2 rs
unfolding preamble_after_header opening_after
opening-starts rs = refl

-- the records before the mark and after it, where the first record is not the mark
pub front-more : (r : Row) (rs : List Row) → is_mark r ≡ false → before_mark (r ∷ rs) ≡ r ∷ before_mark rs
front-more r rs mark = take_while-cons (λ row. not (is_mark row)) r rs ∙ rw mark refl

script-more : (r : Row) (rs : List Row) → is_mark r ≡ false → after_first is_mark (r ∷ rs) ≡ after_first is_mark rs
script-more r rs mark =
    let later : 1 + position_or_len is_mark rs + 1 ≡ suc (position_or_len is_mark rs + 1) = omega arith in
    rw mark (ap (λ (n : ℕ). drop n (r ∷ rs)) later)

none-left : (members : Opening) (room k : ℕ) (marked : Bool) (script : List Row)
    → unless_bad (position_from is_no_member k (take room [])) (if nat_lt room 0 then Err (fault_at TooManyMembers 0) else if marked then Ok (members ++ [], 0 + (k + 1), script) else Err (fault_at NoScript 0))
    ≡ (if marked then Ok (members, k + 1, script) else Err (fault_at NoScript 0))
none-left members zero k marked script = rw append-nil (ap (λ n. if marked then Ok (members, n, script) else Err (fault_at NoScript 0)) (omega arith))
none-left members (suc room) k marked script = rw (le-ltb (suc room) 0 (omega arith), append-nil) (ap (λ n. if marked then Ok (members, n, script) else Err (fault_at NoScript 0)) (omega arith))

same-room : (a b : ℕ) → nat_lt (suc a) (suc b) ≡ nat_lt a b
same-room a b =
    elim (nat_lt a b) as (λ x. nat_lt a b ≡ x → nat_lt (suc a) (suc b) ≡ x) [
      | true ↦ λ e. lt-ltb (suc a) (suc b) (omega (arith, ltb-true a b e))
      | false ↦ λ e. le-ltb (suc a) (suc b) (omega (arith, ltb-false a b e))
    ] refl

same-opening : (bad : Option ℕ) (full other marked : Bool) (members others : Opening) (k n : ℕ) (script : List Row) → full ≡ other → members ≡ others → k ≡ n
    → unless_bad bad (if full then Err (fault_at TooManyMembers 0) else if marked then Ok (members, k, script) else Err (fault_at NoScript 0))
    ≡ unless_bad bad (if other then Err (fault_at TooManyMembers 0) else if marked then Ok (others, n, script) else Err (fault_at NoScript 0))
same-opening bad full other marked members others k n script is same number = rw (is, same, number) refl

module _ (members : Opening) (room k : ℕ) (rs : List Row) where
  pub opening-ends : rs ≡ [] → opening_after members room k rs ≡ Err (fault_at NoScript 0)
  unfolding opening_after
  opening-ends e = rw e (none-left members room k false [])

  module _ (r : Row) (ss : List Row) (next : rs ≡ r ∷ ss) where
    pub opening-mark : is_mark r ≡ true → opening_after members room k rs ≡ Ok (members, k + 1, ss)
    unfolding opening_after
    opening-mark mark = rw (next, mark) (none-left members room k true ss)

    pub opening-full : is_mark r ≡ false → room ≡ 0 → opening_after members room k rs ≡ Err (fault_at TooManyMembers 0)
    unfolding opening_after
    opening-full mark full = rw (next, full, front-more r ss mark, lt-ltb 0 (length (r ∷ before_mark ss)) (omega arith)) refl

    module _ (left : ℕ) (mark : is_mark r ≡ false) (more : room ≡ suc left) where
      pub opening-bad : member_of r ≡ None → opening_after members room k rs ≡ Err (fault_at BadRecord k)
      unfolding opening_after
      opening-bad bad = rw (next, more, front-more r ss mark, bad) refl

      pub opening-member : (m : List ℕ × ℕ) → member_of r ≡ Some m → opening_after members room k rs ≡ opening_after (members ++ m ∷ []) left (k + 1) ss
      unfolding opening_after
      opening-member m found =
          rw (next, more, front-more r ss mark, script-more r ss mark, mark, found)
          (same-opening _ _ _ _ _ _ _ _ _ (same-room left (length (before_mark ss))) (sym (append_assoc members (m ∷ []) (filter_map member_of (before_mark ss)))) (omega arith))
