-- Sums over the members up to an index, and the counts that a call has written.
use Rattle.std.proofs.Common.{◌≡◌, ℕ, ◌+◌, ◌<◌, ◌≤◌, Bool, true, false, cond, List, [], ◌∷◌, length, take, get_or, arith, sym, subst}
use Rattle.std.specs.Prelude.{Result, Ok, Err, IsOk, IfOk}
use Rattle.std.specs.List.{All, sum_by}
use Rattle.std.proofs.lemmas.List.{take_more}
use Rattle.std.proofs.lemmas.List.Sums.{sum_by-cons, sum_by-take-le}
use Rattle.council_core.specs.declared.commands.Standing.{Standing}
use Rattle.council_core.specs.declared.refusals.Refusal.{Refusal}
use Rattle.council_core.specs.Rolls.{sits_in, effective_votes, votes_in}
use Rattle.board_c.specs.declared.counts.members.BoardMember.{BoardMember}
use Rattle.c_values.specs.declared.counts.BoardCounts.{BoardCounts}
use Rattle.board_c.specs.Members.{standing_of, member_total}
use Rattle.council_core.specs.declared.limits.TheConstants.{CHAIRS}
use Rattle.std.proofs.lemmas.List.Elements.{All-append, All-cons, All-nil}

-- a member adds at most its counted votes to a chair's weight
pub votes_within : (c : ℕ) (s : Standing) → votes_in c s ≤ effective_votes s
votes_within c s = at_most (sits_in c s) (effective_votes s)
  where
    at_most : (b : Bool) (n : ℕ) → cond b n 0 ≤ n
    at_most true n = omega arith
    at_most false n = omega arith

-- the votes of a chair's members are at most all votes
pub sum_within : (c : ℕ) (ms : List BoardMember) → sum_by (λ m. votes_in c (standing_of m)) ms ≤ member_total ms
sum_within c [] = omega arith
sum_within c (m ∷ ms) =
    omega (arith, sum_by-cons (λ (x : BoardMember). votes_in c (standing_of x)) m ms, sum_by-cons (λ (x : BoardMember). effective_votes (standing_of x)) m ms, votes_within c (standing_of m), sum_within c ms)

-- and so are those of its members up to an index
pub front_within : (c at : ℕ) (ms : List BoardMember) → sum_by (λ m. votes_in c (standing_of m)) (take at ms) ≤ member_total ms
front_within c at ms = omega (arith, sum_by-take-le (λ (m : BoardMember). votes_in c (standing_of m)) ms at, sum_within c ms)

-- what is written has what was found to hold of the counts
pub written_shows : (P : BoardCounts → Type 0) (found : Result BoardCounts Refusal) (new : BoardCounts) → IsOk found → IfOk found (λ c. new ≡ c) → IfOk found P → P new
written_shows P (Ok c) new ok is shows = subst P (sym is) shows
written_shows P (Err why) new ok is shows = absurd (cc)

-- what is read where there is no member
abbrev pub no_member : BoardMember
no_member = record { votes = 0; chair = 0; suspended = 0 }

-- one more seated member
pub seated_more : (ms : List BoardMember) (at : ℕ) → at < length ms → All (λ m. m.chair ≤ CHAIRS) (take at ms) → (get_or ms at no_member).chair ≤ CHAIRS → All (λ m. m.chair ≤ CHAIRS) (take (at + 1) ms)
seated_more ms at inside before here =
    let P : BoardMember → Type 0 = λ m. m.chair ≤ CHAIRS in
    rw (take_more ms at no_member inside) (All-append P (take at ms) _ before (All-cons P (get_or ms at no_member) [] here (All-nil P)))
