-- What a directory's fields stand for.
use Rattle.std.specs.Prelude.{ℕ, List}
use Rattle.rand_core.specs.Stream.{Stream}
use Rattle.epochs.specs.declared.directory.Directory.TheInside.{Inside}
use Rattle.epochs.specs.Addresses.{AreAddresses}
use Rattle.epochs.specs.DirectoryStates.{DirectoryState, book, provider}
use Rattle.epochs.specs.Parts.{Keeps, Parts, earlier_of, last_of, pending_of}

module _ {H V S R : Type 0} where
  abbrev pub parts_of : Inside H V S R → Parts
  parts_of inside = record {
    names = inside.names.versions;
    roots = inside.roots.items;
    trees = inside.trees.items;
    waiting = inside.waiting;
    body_hash = inside.body_hash;
  }

  abbrev pub state_of : (V → List ℕ) → (S → List ℕ) → (H → ℕ) → Inside H V S R → DirectoryState R
  state_of vuf_key signing_key digests inside = record {
    earlier = earlier_of (parts_of inside);
    last = last_of (parts_of inside);
    pending = pending_of (parts_of inside);
    salt = inside.salt;
    salts = inside.salts;
    vuf_key = vuf_key inside.vuf;
    signing_key = signing_key inside.signer;
    digests = digests inside.hash;
  }

  -- the fields keep the book, and each name has its own address
  abbrev pub KeepsBook : (List ℕ → List ℕ) → (List ℕ → List ℕ → List ℕ) → (List ℕ → List ℕ → List ℕ) → (V → List ℕ) → (S → List ℕ) → (H → ℕ) → (R → Stream) → Inside H V S R → Type 0
  KeepsBook digest_of value_of signature_of vuf_key signing_key digests stream inside =
      let kept = state_of vuf_key signing_key digests inside in
      Keeps (provider digest_of value_of signature_of kept) (parts_of inside) (book stream kept)
      × AreAddresses (provider digest_of value_of signature_of kept) inside.names.addresses
