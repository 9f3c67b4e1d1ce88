-- The items of a script, one record at a time.
use Rattle.std.proofs.Common.{◌≡◌, ◌⊎◌, inl, inr, ◌+◌, ◌-◌, ℕ, All, List, [], ◌∷◌, ◌++◌, length, map, set, Some, None, Ok, Err, refl, sym, ap, ◌∙◌, subst, append_assoc, append-nil, arith}
use Rattle.std.proofs.lemmas.List.{length-append, map-append}
use Rattle.std.proofs.lemmas.List.Elements.{All-append, All-cons}
use Rattle.council_core.specs.declared.refusals.Refusal.{Refusal}
use Rattle.council_core.specs.declared.calls.Order.TheVariants as order
use Rattle.board_text.specs.Requests.{Row}
use Rattle.board_text.specs.Text.{fault_at, request_within}
use Rattle.board_text.specs.declared.bounds.Limits.{Limits}
use Rattle.board_text.specs.declared.requests.Request.{Request}
use Rattle.board_text.specs.declared.requests.Request.TheVariants as ask
use Rattle.board_text.specs.declared.stops.Stop.{Stop}
use Rattle.board_text.specs.declared.stops.Stop.TheVariants as stop
use Rattle.council_core.specs.Sequential.{Sequential}
use Rattle.board_text.specs.Scripts.{script_course}
use Rattle.board_runs.specs.Replays.{replay_effect}
use Rattle.board_c.specs.Contents.{end_from, items_from}
use Rattle.board_c.specs.Items.{item_as, with_span, without_span}
use Rattle.board_c.specs.Spans.{SpansItsLine, IsRecordAt}
use Rattle.board_c.specs.TextLines.{IsLeft, line_after, lines_end, mark_size}
use Rattle.board_c.specs.Written.{EndsReading, ReadItems, overlaid}
use Rattle.board_c.specs.declared.script.items.BoardItem.{BoardItem}
use Rattle.board_c.specs.declared.script.lines.LineSpan.{LineSpan}
use Rattle.board_c.proofs.ListFacts.{overlaid-more, overlaid-none}
use Rattle.board_c.proofs.PlaceFacts.{IsAt, at-later, at-next, at-start, stands}
use Rattle.board_c.proofs.PlainFacts.{within-plain}

-- an item without its span, and its number
as-unplaced : (k from to : ℕ) (q : Request) → without_span (with_span from to (item_as k q)) ≡ item_as k q
as-unplaced k from to (ask.Order (order.Submit c)) = refl
as-unplaced k from to (ask.Order order.Publish) = refl
as-unplaced k from to (ask.Read reader m) = refl

as-numbered : (k from to : ℕ) (q : Request) → (with_span from to (item_as k q)).number ≡ k
as-numbered k from to (ask.Order (order.Submit c)) = refl
as-numbered k from to (ask.Order order.Publish) = refl
as-numbered k from to (ask.Read reader m) = refl

pub all-none : {A : Type 0} (P : A → Type 0) → All P []
all-none P k d h = absurd (omega (arith, h))

all-more : {A : Type 0} (P : A → Type 0) (xs : List A) (x : A) → All P xs → P x → All P (xs ++ x ∷ [])
all-more P xs x h p = All-append P xs (x ∷ []) h (All-cons P x [] p (all-none P))

-- the records so far: their items were written at their spans, and the items of the records that
-- are left follow
pub record ReadSo (text : List ℕ) (lim : Limits) (first : ℕ) (rows : List Row) (number at : ℕ) (left : List Row) (old now : List BoardItem) (count : ℕ) : Type 0 where
  pub done : List BoardItem
  pub passed : List Row
  pub written : now ≡ overlaid done old
  pub counted : count ≡ length done
  pub whole : items_from lim first rows ≡ map without_span done ++ items_from lim number left
  pub end : (s : Sequential) → (t : Sequential) × (end_from lim first s rows ≡ end_from lim number t left)
  pub spans : All (SpansItsLine text) done
  pub here : IsAt text at passed left
  pub numbered : number ≡ length passed + 1

pub read-none : (text : List ℕ) (lim : Limits) (first at : ℕ) (rows : List Row) (old : List BoardItem) (count : ℕ) → count ≡ 0 → IsLeft text first rows → at ≡ lines_end (first - 1) text (mark_size text)
    → ReadSo text lim first rows first at rows old old count
read-none text lim first at rows old count zero left is =
    let n : first - 1 ≡ length left.front = let c = left.counted in omega arith in
    let start = subst (λ (rs : List Row). IsAt text (mark_size text) [] rs) left.split (at-start text) in
    let later = at-later text (mark_size text) [] left.front rows start left.plain in
    record {
      done = [];
      passed = left.front;
      written = sym (overlaid-none old);
      counted = zero;
      whole = refl;
      end = λ s. (s, refl);
      spans = all-none (SpansItsLine text);
      here = subst (λ (m : ℕ). IsAt text m left.front rows) (sym (is ∙ ap (λ (m : ℕ). lines_end m text (mark_size text)) n)) later;
      numbered = left.counted;
    }

module _ (text : List ℕ) (lim : Limits) (first : ℕ) (rows : List Row) (number at : ℕ) (left : List Row) (old now : List BoardItem) (count : ℕ) (so : ReadSo text lim first rows number at left old now count) where
  -- no record is left
  pub items-end : left ≡ [] → ReadItems {T = Unit {0}} (Ok tt) text (items_from lim first rows) count old now
  unfolding items_from
  items-end e = record { got = so.done; read = sym (so.whole ∙ rw e (append-nil (map without_span so.done))); spans = so.spans; written = so.written; counted = so.counted }

  pub fault-end : left ≡ [] → (s : Sequential) → end_from lim first s rows ≡ None
  unfolding script_course
  fault-end e s = (so.end s).1 ∙ rw e refl

  -- memory ran out
  pub items-broken : (e : Stop) → (e ≡ stop.OutOfMemory) ⊎ (e ≡ stop.ReadFault) → ReadItems {T = Unit {0}} (Err e) text (items_from lim first rows) count old now
  items-broken e (inl is) = record { got = so.done; read = rw is (items_from lim number left, so.whole); spans = so.spans; written = so.written; counted = so.counted }
  items-broken e (inr is) = record { got = so.done; read = rw is (items_from lim number left, so.whole); spans = so.spans; written = so.written; counted = so.counted }

  pub items-lost : (e d : Stop) → (e ≡ stop.OutOfMemory) ⊎ (e ≡ stop.ReadFault) → d ≡ e → ReadItems {T = Unit {0}} (Err d) text (items_from lim first rows) count old now
  items-lost e d causes same = rw same (items-broken e causes)

  pub end-lost : (e d : Stop) → (e ≡ stop.OutOfMemory) ⊎ (e ≡ stop.ReadFault) → d ≡ e → (s : Sequential) → EndsReading {T = Unit {0}} (Err d) (end_from lim first s rows)
  end-lost e d (inl is) same s = rw (same, is) tt
  end-lost e d (inr is) same s = rw (same, is) tt

  module _ (r : Row) (ss : List Row) (next : left ≡ r ∷ ss) where
    items-next : (q : Request) → request_within lim r ≡ Ok q → items_from lim number left ≡ item_as number q ∷ items_from lim (number + 1) ss
    unfolding items_from
    items-next q is = rw (next, is) refl

    fault-next : (q : Request) → request_within lim r ≡ Ok q → (t : Sequential) → end_from lim number t left ≡ end_from lim (number + 1) (replay_effect t q).1 ss
    unfolding script_course
    fault-next q is t = rw (next, is) refl

    items-none : (why : Refusal) → request_within lim r ≡ Err why → items_from lim number left ≡ []
    unfolding items_from
    items-none why is = rw (next, is) refl

    fault-here : (why : Refusal) → request_within lim r ≡ Err why → (t : Sequential) → end_from lim number t left ≡ Some (fault_at why number)
    unfolding script_course
    fault-here why is t = rw (next, is) refl

    -- one more item, which stands on the next line
    abbrev span : LineSpan
    span = line_after text at

    stands-there : (q : Request) → request_within lim r ≡ Ok q → SpansItsLine text (with_span span.from span.to (item_as number q))
    stands-there q is =
        let here = subst (λ (rs : List Row). IsAt text at so.passed rs) next so.here in
        let plain = within-plain lim r q is in
        let there : IsRecordAt text number span.from span.to = subst (λ (n : ℕ). IsRecordAt text n span.from span.to) (sym so.numbered) (stands text at so.passed r ss here plain) in
        subst (λ (n : ℕ). IsRecordAt text n span.from span.to) (sym (as-numbered number span.from span.to q)) there

    pub read-more : (q : Request) (then : List BoardItem) → request_within lim r ≡ Ok q → then ≡ set now count (with_span span.from span.to (item_as number q)) → ReadSo text lim first rows (number + 1) span.to ss old then (count + 1)
    read-more q then is put =
        let item = with_span span.from span.to (item_as number q) in
        record {
          done = so.done ++ item ∷ [];
          passed = so.passed ++ r ∷ [];
          written = put ∙ ap (λ l. set l count item) so.written ∙ ap (λ n. set (overlaid so.done old) n item) so.counted ∙ overlaid-more so.done old item;
          counted = omega (arith, so.counted, length-append so.done (item ∷ []));
          whole = so.whole ∙ ap (λ l. map without_span so.done ++ l) (items-next q is ∙ ap (λ (b : BoardItem). b ∷ items_from lim (number + 1) ss) (sym (as-unplaced number span.from span.to q)))
              ∙ sym (append_assoc (map without_span so.done) (without_span item ∷ []) (items_from lim (number + 1) ss))
              ∙ ap (λ l. l ++ items_from lim (number + 1) ss) (sym (map-append without_span so.done (item ∷ [])));
          end = λ s. ((replay_effect (so.end s).0 q).1, (so.end s).1 ∙ fault-next q is (so.end s).0);
          spans = all-more (SpansItsLine text) so.done item so.spans (stands-there q is);
          here = at-next text at so.passed r ss (subst (λ (rs : List Row). IsAt text at so.passed rs) next so.here) (within-plain lim r q is);
          numbered = omega (arith, so.numbered, length-append so.passed (r ∷ []));
        }

    pub read-item : (where_it : LineSpan) (q : Request) (item : BoardItem) (then : List BoardItem) → where_it ≡ span → Ok q ≡ request_within lim r → item ≡ with_span where_it.from where_it.to (item_as number q) → then ≡ set now count item
        → ReadSo text lim first rows (number + 1) where_it.to ss old then (count + 1)
    read-item where_it q item then there asks is put =
        let at_place = is ∙ ap (λ (p : LineSpan). with_span p.from p.to (item_as number q)) there in
        subst (λ (p : LineSpan). ReadSo text lim first rows (number + 1) p.to ss old then (count + 1)) (sym there) (read-more q then (sym asks) (put ∙ ap (set now count) at_place))

    -- a record with a fault
    pub items-stop : (why : Refusal) → request_within lim r ≡ Err why → ReadItems {T = Unit {0}} (Err (stop.Fault (fault_at why number))) text (items_from lim first rows) count old now
    items-stop why is = record { got = so.done; read = sym (so.whole ∙ ap (λ l. map without_span so.done ++ l) (items-none why is) ∙ append-nil (map without_span so.done)); spans = so.spans; written = so.written; counted = so.counted }

    pub fault-stop : (why : Refusal) → request_within lim r ≡ Err why → (s : Sequential) → end_from lim first s rows ≡ Some (fault_at why number)
    fault-stop why is s = (so.end s).1 ∙ fault-here why is (so.end s).0

    -- the same of the fault that is returned
    pub items-passed : (why : Refusal) (d : Stop) → Err why ≡ request_within lim r → d ≡ stop.Fault (fault_at why number) → ReadItems {T = Unit {0}} (Err d) text (items_from lim first rows) count old now
    items-passed why d refused is = rw is (items-stop why (sym refused))

    pub end-passed : (why : Refusal) (d : Stop) → Err why ≡ request_within lim r → d ≡ stop.Fault (fault_at why number) → (s : Sequential) → EndsReading {T = Unit {0}} (Err d) (end_from lim first s rows)
    end-passed why d refused is s = rw is (fault-stop why (sym refused) s)
