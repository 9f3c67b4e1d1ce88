use Rattle.board_share.proofs.Names.{ap, arith, AtRest, COPY_WORDS, IsReader, Leaving, reader_at, refl, Stage}
use Rattle.board_share.proofs.Names.{stage_with_words, subst, sym, take, ℕ, ◌∙◌, ◌≡◌}
use Rattle.board_share.specs.Readers.{HasRead}
use Rattle.board_share.proofs.ReaderSeats.{loaded_all}
use Rattle.board_share.proofs.PartialReadings.{HasReadPart, has_read, way_begun, way_on}
use Rattle.board_share.proofs.reader_steps.read_all.Goals as goal

pub leave-requires : goal.leave-requires
leave-requires c =
    let i = c.loop-k.invariant in
    let side = c.load_side-side.result in
    let all : c.loop-k.k ≡ COPY_WORDS = let end = c.loop-k.auto.k-end in let past = c.loop-k-test.false in omega arith in
    subst (λ (st : Stage). IsReader c.args.board.now.shared.table_id c.loop-k.seat.table_id c.loop-k.seat.me (reader_at c.args.board.now.shared.table_id c.loop-k.seat.me.0 c.args.r st))
    (ap (λ (n : ℕ). stage_with_words side (take n c.loop-k.words)) all ∙ loaded_all side c.loop-k.words i.long)
    i.reading.seat_is

pub loop-k-init : goal.loop-k-init
loop-k-init c = record { long = refl; reading = way_begun _ _ _ _ _ _ _ refl c.arrive.ensures c.load_side-side.ensures }

pub loop-k-preserved : goal.loop-k-preserved
loop-k-preserved c = record { long = c.type_inv.words; reading = way_on _ _ _ _ _ _ _ _ _ _ c.loop-k.invariant.long c.loop-k-test.true c.loop-k.invariant.reading c.load_word.ensures }

pub returns : goal.returns
returns c =
    let i = c.loop-k.invariant in
    let side = c.load_side-side.result in
    let board = c.args.board.now.shared.table_id in
    let start = reader_at board c.args.seat.now.me.0 c.args.r AtRest in
    let all : c.loop-k.k ≡ COPY_WORDS = let end = c.loop-k.auto.k-end in let past = c.loop-k-test.false in omega arith in
    let way : HasReadPart board start c.loop-k.seat.table_id c.loop-k.seat.me (Leaving side c.loop-k.words) = subst (HasReadPart board start c.loop-k.seat.table_id c.loop-k.seat.me)
    (ap (λ (n : ℕ). stage_with_words side (take n c.loop-k.words)) all ∙ loaded_all side c.loop-k.words i.long) i.reading in
    record { read = subst (HasRead board start c.leave.new.seat.table_id c.leave.new.seat.me) (sym c.from_words_unchecked.ensures) (has_read _ _ _ _ _ _ _ _ refl way c.leave.ensures) }
