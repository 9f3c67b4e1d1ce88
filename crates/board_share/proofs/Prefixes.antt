-- The histories of all seats after a step of one.
use Rattle.board_share.proofs.Names.{[], Adds, ap, as_reader, at_set, Bool, Event, filter, get_elem?, History}
use Rattle.board_share.proofs.Names.{history_with, is_readers, is_writers, KnowsPrefix, List, Opening, Part, refl, set}
use Rattle.board_share.proofs.Names.{Some, some, subst, suc, sym, View, WriterView, ℕ, ⊎_elim, ◌++◌, ◌∙◌, ◌≡◌, ◌≢◌}
use Rattle.std.proofs.lemmas.List.Elements.{filter-append}
use Rattle.board_share.proofs.Histories.{longer_none, longer_twice}

-- none of these events belongs to an actor of the seat
pub record NoneOf (v : View) (events : List Event) : Type 0 where
  pub writer : (x : Opening × WriterView) → v.writer ≡ Some x → filter is_writers events ≡ []
  pub readers : (r : ℕ) (x : Part) → as_reader r v ≡ Some x → filter (is_readers (suc r)) events ≡ []

-- two lists without such events, one after the other
none_both : (own : Event → Bool) (xs ys : List Event) → filter own xs ≡ [] → filter own ys ≡ [] → filter own (xs ++ ys) ≡ []
none_both own xs ys e f = filter-append own xs ys ∙ (λ i. e i ++ f i)

-- a seat's history is still a prefix
pub prefix_on : (v : View) (whole : History) (more : List Event) → KnowsPrefix v whole → NoneOf v more → KnowsPrefix v (history_with whole more)
prefix_on v whole more f none =
    record {
      rest = f.rest ++ more;
      whole_is = ap (λ (h : History). history_with h more) f.whole_is ∙ longer_twice v.history f.rest more;
      writer = λ x e. none_both is_writers f.rest more (f.writer x e) (none.writer x e);
      readers = λ r x e. none_both (is_readers (suc r)) f.rest more (f.readers r x e) (none.readers r x e);
    }

-- the whole history is a prefix of itself
pub prefix_whole : (v : View) (whole : History) → v.history ≡ whole → KnowsPrefix v whole
prefix_whole v whole e = record { rest = []; whole_is = sym (longer_none v.history ∙ e); writer = λ x f. refl; readers = λ r x f. refl }

-- after a step of one seat all histories are prefixes
pub prefixes_set : (views : List View) (id : ℕ) (w : View) (whole : History) (more : List Event) → ((j : ℕ) (u : View) → get_elem? views j ≡ some u → KnowsPrefix u whole)
    → w.history ≡ history_with whole more → ((j : ℕ) (u : View) → j ≢ id → get_elem? views j ≡ some u → NoneOf u more)
    → (j : ℕ) (u : View) → get_elem? (set views id w) j ≡ some u → KnowsPrefix u (history_with whole more)
prefixes_set views id w whole more prefixes is others j u at =
    ⊎_elim
    (λ (t : (j ≡ id) × (w ≡ u)). subst (λ (z : View). KnowsPrefix z (history_with whole more)) t.1 (prefix_whole w (history_with whole more) is))
    (λ (t : (j ≢ id) × (get_elem? views j ≡ some u)). prefix_on u whole more (prefixes j u t.1) (others j u t.0 t.1))
    (at_set views id j w u at)

-- what is added to a seat's own history, where the whole one goes on
pub adds_on : (own : Event → Bool) (h whole : History) (rest more mine : List Event) → whole ≡ history_with h rest → filter own rest ≡ [] → filter own more ≡ mine → Adds own mine h (history_with whole more)
adds_on own h whole rest more mine e none is =
    record {
      events = rest ++ more;
      longer_by = ap (λ (x : History). history_with x more) e ∙ longer_twice h rest more;
      own_are = filter-append own rest more ∙ (λ i. none i ++ is i);
    }

-- what is added in two parts
pub adds_then : (own : Event → Bool) (a b c : History) (first second : List Event) → Adds own first a b → Adds own second b c → Adds own (first ++ second) a c
adds_then own a b c first second x y =
    record {
      events = x.events ++ y.events;
      longer_by = y.longer_by ∙ (ap (λ (h : History). history_with h y.events) x.longer_by ∙ longer_twice a x.events y.events);
      own_are = filter-append own x.events y.events ∙ (λ i. x.own_are i ++ y.own_are i);
    }

pub adds_none : (own : Event → Bool) (h : History) → Adds own [] h h
adds_none own h = record { events = []; longer_by = sym (longer_none h); own_are = refl }
