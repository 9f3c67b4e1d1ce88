-- The fields settle the value.
use Rattle.std.proofs.Common.{◌≡◌, ℕ, List, refl}
use Rattle.majority_rule.specs.declared.majorities.Majority.{Majority}
use Rattle.majority_rule.specs.Winning.{quota_of, least_size_of}
use Rattle.power_index.specs.declared.indices.Indices.{Indices}
use Rattle.power_index.specs.Indices.{AreIndices, indices_of}

pub fields_settle : (m : Majority) (words : List ℕ) (i : Indices) → AreIndices m words i → i.quota ≡ quota_of m words → i.least_size ≡ least_size_of m words → i ≡ indices_of m words
fields_settle m words i are q z =
    let each : ◌≡◌ {A = Indices} (record {
      majority = i.majority;
      front = i.front;
      chairs = i.chairs;
      quota = i.quota;
      least_size = i.least_size;
      cast = i.cast;
      total = i.total;
      winning = i.winning;
      coalitions = i.coalitions;
      act = i.act;
      rows = record { items = i.rows.items };
    }) (indices_of m words) = rw (are.same_majority, are.same_front, are.open_count, q, z, are.same_cast, are.same_total, are.omega, are.all, are.to_act, are.row_each) refl in
    each
