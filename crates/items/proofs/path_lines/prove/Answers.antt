use Rattle.items.proofs.path_lines.prove.Goals as goal

pub returns-in-Sha256-clause-ends : goal.returns-in-Sha256-clause-ends
returns-in-Sha256-clause-ends g c = rw (c.in_ok-hex32_or_zeros.ensures, c.in_ok-option_hex32.ensures, ← c.new-nonce.ensures, ← c.new-index.ensures, c.in-Sha256.is) c.prove_under.ensures.ends

pub returns-in-Sum-clause-ends : goal.returns-in-Sum-clause-ends
returns-in-Sum-clause-ends g c = rw (c.in_ok-hex32_or_zeros.ensures, c.in_ok-option_hex32.ensures, ← c.new-nonce.ensures, ← c.new-index.ensures, c.in-Sum.is) c.prove_under-in-Sum.ensures.ends
