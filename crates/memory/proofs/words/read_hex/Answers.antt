use Rattle.std.proofs.Common.{◌≡◌, ◌≢◌, ◌⊎◌, inl, inr, List, ℕ, Err, rules}
use Rattle.hex.specs.Hex.{decode_of}
use Rattle.hex.specs.declared.error.FromHexError.{FromHexError}
use Rattle.hex.specs.declared.error.FromHexError.TheVariants.{OutOfMemory}
use Rattle.memory.proofs.OneWord.{no_hex}
use Rattle.memory.proofs.words.read_hex.Goals as goal

refused : (word : List ℕ) (e : FromHexError) → (e ≡ OutOfMemory) ⊎ (decode_of word ≡ Err e) → e ≢ OutOfMemory → decode_of word ≡ Err e
refused word e (inl memory) other = absurd (other memory)
refused word e (inr err) other = err

pub returns-in-Err : goal.returns-in-Err
returns-in-Err c =
    let other : c.in-Err.field-0 ≢ OutOfMemory = search rules in
    no_hex c.args.word.now c.in-Err.field-0 (refused c.args.word.now c.in-Err.field-0 c.in-Err.ensures.err other)
