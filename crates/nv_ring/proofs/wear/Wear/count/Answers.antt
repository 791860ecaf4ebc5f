use Rattle.std.proofs.Common.{◌≡◌, ◌+◌, sum, set, get_or, refl, arith, rules}
use Rattle.std.proofs.lemmas.Grind.{common_steps}
use Rattle.nv_ring.proofs.Turning.{wear_next}
use Rattle.nv_ring.proofs.wear.Wear.count.Goals as goal

pub returns-clause-wear : goal.returns-clause-wear
returns-clause-wear c before is next goes =
    let wear = c.args.self.now in
    let head = c.args.head.now in
    let more = set wear.fills head.place (get_or wear.fills head.place 0 + 1) in
    let total : sum more ≡ sum wear.fills + 1 = first_of (search rules, grind (arith, common_steps)) in
    wear_next wear before head is next goes (omega arith) c.requires.inside more refl total
