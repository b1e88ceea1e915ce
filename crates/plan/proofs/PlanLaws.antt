-- What was found out and written is a plan.
use Prim.Native.Nat.{ℕ}
use mathlib.Core.Path.{refl}
use mathlib.Core.Logic.{inl, inr}
use mathlib.Core.List.{List}
use Rattle.tables.specs.declared.Tables.{Tables}
use Rattle.tables.specs.Tables.{messages_of_lem}
use Rattle.tables.specs.Cells.{relations_of_tables}
use Rattle.answers.specs.declared.Answer.{Answer}
use Rattle.answers.specs.Answers.{Listed}
use Rattle.plan_listing.specs.PlanText.{class_three, class_two, first_networks}
use Rattle.rules.specs.declared.Network.{Network}
use Rattle.verdicts.specs.declared.ShownCycle.{ShownCycle}
use Rattle.verdicts.specs.Verdicts.{cycle_of, ThreeFound, TwoFound}
use Rattle.plan.specs.Call.{PlanWritten}

module _ (t : Tables) where
  pub planned-three : (count : ℕ) (networks : List Network) → ThreeFound (relations_of_tables t) count networks → (old new : List ℕ) (r : Answer)
      → Listed (class_three (messages_of_lem t) (first_networks t.message_count networks) count) old new r → PlanWritten t old new r
  planned-three count networks three old new r l = record {
    listing = class_three (messages_of_lem t) (first_networks t.message_count networks) count;
    allowed =
        inl (record {
          networks = first_networks t.message_count networks;
          count = count;
          long = three.long;
          printed = three.printed;
          least = three.least;
          is = refl;
        });
    listed = l;
  }

  pub planned-two : (c : ShownCycle) → TwoFound (relations_of_tables t) c → (old new : List ℕ) (r : Answer) → Listed (class_two t.messages (cycle_of c)) old new r → PlanWritten t old new r
  planned-two c two old new r l = record {
    listing = class_two t.messages (cycle_of c);
    allowed = inr (record { cycle = cycle_of c; shown = two.cycle; is = refl });
    listed = l;
  }
