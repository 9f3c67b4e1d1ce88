use Rattle.std.proofs.Common.{◌≡◌, ◌≤◌, ◌-◌, length, rules, arith}
use Rattle.std.proofs.lemmas.List.{length-map}
use Rattle.board_serve.specs.Plans.{records_of}
use Rattle.board_serve.proofs.PlanFacts.{read-by-none}
use Rattle.board_serve.proofs.plan.Records.add.Goals as goal

pub returns-else-index-lt-SERVED_READERS : goal.returns-else-index-lt-SERVED_READERS
returns-else-index-lt-SERVED_READERS c =
    let two : length c.args.self.now.asked ≡ 2 = search rules in
    let behind : 2 ≤ c.in-Read.reader - 1 = search rules in
    let same : length (records_of c.args.self.now).asked ≡ length c.args.self.now.asked = length-map c.args.self.now.asked _ in
    let none : length (records_of c.args.self.now).asked ≤ c.in-Read.reader - 1 = omega (arith, same, two, behind) in
    record { added = rw c.in-Read.is (read-by-none _ _ c.in-Read.reader c.in-Read.majority none) }
