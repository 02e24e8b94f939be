-- What is read of what a directory responds.
use Rattle.std.specs.Prelude.{◌≡◌, ◌≢◌, ◌⊎◌, ℕ, ◌<◌, ◌≤◌, List, [], ◌∷◌, ◌++◌, Some, length, slice_get}
use Rattle.rootchain.specs.RootLists.{SpellsRoots}
use Rattle.rootchain.specs.SignedRoots.{signed_root_bytes}
use Rattle.rootchain.specs.declared.signed_root.SignedRoot.{SignedRoot}
use Rattle.wire.specs.Frames.{frame_bytes, Frame, IsFrame}
use Rattle.wire.specs.Streams.{BeginsFrame, HasBadLength}
use Rattle.coniks.specs.Parts.{IsPart}
use Rattle.coniks.specs.declared.parts.FrameParts.{FrameParts}
use Rattle.coniks.specs.declared.parts.Part.{Part}

-- a frame is read from the front of the bytes: 28, they may begin one that is not whole; 1, none begins so
abbrev pub ReadsFrame : List ℕ → ℕ → FrameParts → FrameParts → Type 0
ReadsFrame bytes answer before after =
    ((frame : Frame) × (rest : List ℕ) × (bytes ≡ frame_bytes frame ++ rest) × IsFrame frame × (answer ≡ 0) × (after.kind ≡ frame.kind) × (after.body.start ≡ 5) × IsPart bytes after.body frame.body)
    ⊎ (BeginsFrame bytes × (answer ≡ 28) × (after ≡ before))
    ⊎ (HasBadLength bytes × (answer ≡ 1) × (after ≡ before))

-- each root of a list stands at the part of its number
abbrev pub ArePlaced : List ℕ → List SignedRoot → List Part → Type 0
ArePlaced bytes roots parts = (n : ℕ) (root : SignedRoot) → slice_get roots n ≡ Some root → (part : Part) × (slice_get parts n ≡ Some part) × IsPart bytes part (signed_root_bytes root)

-- the parts from this number on are as they were
abbrev pub AreUnchangedFrom : ℕ → List Part → List Part → Type 0
AreUnchangedFrom count before after = (length after ≡ length before) × ((n : ℕ) → count ≤ n → slice_get after n ≡ slice_get before n)

-- a list of roots is read: 13, there is no room for 64 parts; 1, the bytes are none
abbrev pub ReadsRoots : List ℕ → ℕ → List Part → List Part → ℕ → ℕ → Type 0
ReadsRoots bytes answer parts parts' count count' =
    ((length parts < 64) × (answer ≡ 13) × (parts' ≡ parts) × (count' ≡ count))
    ⊎ ((64 ≤ length parts) × ((((roots : List SignedRoot) → ¬ SpellsRoots bytes roots) × (answer ≡ 1) × (parts' ≡ parts) × (count' ≡ count))
    ⊎ ((roots : List SignedRoot) × SpellsRoots bytes roots × (answer ≡ 0) × (count' ≡ length roots) × AreUnchangedFrom (length roots) parts parts' × ArePlaced bytes roots parts')))

-- the body of a refusal is read: 1, it is none
abbrev pub ReadsRefused : List ℕ → ℕ → ℕ → ℕ → Type 0
ReadsRefused body answer before after =
    ((body ≡ after ∷ []) × (answer ≡ 0))
    ⊎ (((number : ℕ) → body ≢ number ∷ []) × (answer ≡ 1) × (after ≡ before))
