use Rattle.std.proofs.Common.{refl}
use Rattle.json.specs.Print.{escape_byte}
use Rattle.audits.proofs.writing.evidence_json.Goals as goal

pub roots-requires : goal.roots-requires
unfolding escape_byte
roots-requires c = record { plain = refl }

pub roots-requires-in-Root-Link : goal.roots-requires-in-Root-Link
unfolding escape_byte
roots-requires-in-Root-Link c = record { plain = refl }

pub roots-requires-in-Root-Skip : goal.roots-requires-in-Root-Skip
unfolding escape_byte
roots-requires-in-Root-Skip c = record { plain = refl }

pub parts-requires : goal.parts-requires
unfolding escape_byte
parts-requires c = record { plain = refl }

pub returns-in-Broken : goal.returns-in-Broken
returns-in-Broken c = rw c.in-Broken.is (simp (c.bytes.ensures.value, c.bytes-in-Broken.ensures.value, c.root_and_proof-second.ensures, c.write-first.ensures.value) at c.parts.ensures)

pub parts-requires-in-Final : goal.parts-requires-in-Final
unfolding escape_byte
parts-requires-in-Final c = record { plain = refl }

pub returns-in-Final : goal.returns-in-Final
returns-in-Final c = rw c.in-Final.is (simp (c.bytes-in-Final.ensures.value, c.bytes-in-Final-2.ensures.value, c.root_and_proof-second-in-Final.ensures, c.name_root_and_proof-first.ensures) at c.parts-in-Final.ensures)
