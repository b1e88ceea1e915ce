-- `plan_listing::maps::map_length` meets its contract.
use Prim.Native.Nat.{◌≤◌}
use lib.ListN.{length, length-take}
use native.Mathlib.Omega.{arith}
use Rattle.text.specs.Name.{name_text}
use Rattle.plan_listing.proofs.Lines.{map-text-length}
use Rattle.plan_listing.proofs.maps.map_length.Goals as goal

pub returns : goal.returns
returns c =
    let short : length (name_text c.args.name) ≤ 24 = omega (arith, length-take c.args.name.length c.args.name.bytes, c.well_formed.0.1.1.0.1.0.1) in
    record {
      exact = omega (arith, c.name_length.ensures, c.digits.ensures.exact, map-text-length (name_text c.args.name) c.args.network.0);
      few = omega (arith, c.name_length.ensures, c.digits.ensures.few, short);
    }
