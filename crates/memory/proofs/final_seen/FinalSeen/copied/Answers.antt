use Rattle.std.proofs.Common.{subst}
use Rattle.memory.specs.Lines.{HasRoom}
use Rattle.memory.proofs.final_seen.FinalSeen.copied.Goals as goal

pub returns-clause-sound : goal.returns-clause-sound
returns-clause-sound c =
    let room : HasRoom c.args.self.now.reply = subst HasRoom c.bytes.ensures.value c.text_of.ensures.sound in
    (c.bytes-name.ensures.limits, c.fitting-epoch.ensures.limits, room)
