-- What a change makes of the stored data, and the replay of accepted commands.
use Rattle.std.specs.Prelude.{◌≡◌, ◌≤◌, ℕ, true, List, is_ok}
use Rattle.council_core.specs.Registers.{Mirrors, IsPlanned}
use Rattle.council_core.specs.Rolls.{Roll, RollEntry, step, next_roll, fold_from, all_accepted, sheet_words}
use Rattle.council_core.specs.declared.limits.TheConstants.{MAX_COMMANDS}
use Rattle.council_core.specs.declared.changes.Change.{Change}
use Rattle.council_core.specs.declared.commands.Command.{Command}
use Rattle.council_core.specs.declared.totals.ChairTotals.{ChairTotals}

-- the stored data agree with this roll
abbrev pub AgreesWith : Roll → List RollEntry → ChairTotals → Type 0
AgreesWith roll entries totals = Mirrors roll entries totals.words totals.counts totals.total

-- the change is that of a command on a roll with which the stored data agree
abbrev pub IsDue : List RollEntry → ChairTotals → Change → Type 0
IsDue entries totals change =
    (roll : Roll) × (command : Command) × AgreesWith roll entries totals × IsPlanned roll command change

-- where the data before agree with a roll on which a command makes this change, those after it agree
-- with the next roll
abbrev pub CarriesOut : Change → List RollEntry → ChairTotals → List RollEntry → ChairTotals → Type 0
CarriesOut change entries totals after after_totals =
    (roll : Roll) (command : Command) → AgreesWith roll entries totals → IsPlanned roll command change
    → AgreesWith (next_roll roll command) after after_totals

-- the command is accepted on a roll with these members
abbrev pub IsAccepted : List RollEntry → Command → Type 0
IsAccepted entries command = (roll : Roll) × (entries ≡ roll.members) × (is_ok (step roll command) ≡ true)

-- the change is that of the command, on each roll that accepts it and with which the stored data agree
abbrev pub PlansFor : List RollEntry → Command → Change → Type 0
PlansFor entries command change =
    (roll : Roll) (totals : ChairTotals) → AgreesWith roll entries totals → is_ok (step roll command) ≡ true
    → IsPlanned roll command change

-- the commands are accepted in turn on a roll with which the stored data agree
abbrev pub AreAccepted : List RollEntry → ChairTotals → List Command → Type 0
AreAccepted entries totals commands =
    (roll : Roll) × AgreesWith roll entries totals × (all_accepted roll commands ≡ true)

-- where the data before agree with a roll that accepts the commands in turn, those after them agree
-- with the roll after them
abbrev pub Replays : List Command → List RollEntry → ChairTotals → List RollEntry → ChairTotals → Type 0
Replays commands entries totals after after_totals =
    (roll : Roll) → AgreesWith roll entries totals → all_accepted roll commands ≡ true
    → AgreesWith (fold_from roll commands) after after_totals

-- the totals are those of a roll after `front` commands
abbrev pub IsShownAfter : ℕ → ChairTotals → Type 0
IsShownAfter front totals =
    (roll : Roll) × (entries : List RollEntry) × AgreesWith roll entries totals × (front ≤ MAX_COMMANDS)

-- the words are the sheet of each roll that has these totals
abbrev pub Shows : ℕ → ChairTotals → List ℕ → Type 0
Shows front totals words =
    (roll : Roll) (entries : List RollEntry) → AgreesWith roll entries totals → words ≡ sheet_words roll front
