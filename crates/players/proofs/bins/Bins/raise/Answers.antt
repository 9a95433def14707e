use Rattle.std.proofs.Common.{◌<◌, arith}
use Rattle.players.proofs.Declining.{slot_room, raised_light}
use Rattle.players.proofs.Raising.{raised_slot, raised_slots}
use Rattle.players.proofs.bins.Bins.raise.Goals as goal

pub overflow_add-self : goal.overflow_add-self
overflow_add-self c =
    let self = c.args.self.now in
    let there : c.args.bin < self.count = omega (arith, c.requires.0, self.slotted) in
    omega (arith, slot_room self.count self.slots c.args.bin c.args.size c.requires.1 there c.requires.0)

pub invariant_of-self : goal.invariant_of-self
invariant_of-self c =
    let self = c.args.self.now in
    let there : c.args.bin < self.count = omega (arith, c.requires.0, self.slotted) in
    record {
      sized = self.sized;
      slotted = raised_slots self.count self.slots c.args.bin _ self.slotted;
      light = raised_light self.count self.slots c.args.bin c.args.size c.requires.1 there c.requires.0;
    }

pub returns : goal.returns
returns c =
    let self = c.args.self.now in
    raised_slot self.count self.slots c.args.bin c.args.size (omega (arith, c.requires.0, self.slotted))
