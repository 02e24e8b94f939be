use Rattle.rand_chacha.specs.ChaCha.{next_word}
use Rattle.server.proofs.Salts.{words-give-salts}
use Rattle.server.proofs.laws.salts_have_their_size.Goals as goal

pub returns : goal.returns
returns c = words-give-salts (next_word 10)
