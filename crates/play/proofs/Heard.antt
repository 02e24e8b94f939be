-- The frames that a session hears, read one after another.
use Rattle.std.proofs.Common.{◌≡◌, ◌≢◌, ℕ, ◌+◌, ◌≤◌, List, [], ◌∷◌, ◌++◌, drop, length, Ok, Err, refl, sym, ap, subst, ◌∙◌, arith, append_assoc}
use Rattle.std.specs.List.{flat_map}
use Rattle.std.proofs.lemmas.List.{append-nil, length-append}
use Rattle.encoding.specs.Fields.{IsField}
use Rattle.encoding.specs.declared.fault.Fault.TheVariants as fault
use Rattle.wire.specs.declared.frame.FrameView.{FrameView}
use Rattle.wire.specs.declared.frame.Front.{Front}
use Rattle.wire.specs.declared.frame.Front.TheVariants.{Whole, Short, Bad}
use Rattle.wire.specs.Frames.{Frame, frame_bytes, read_frame, IsFrame}
use Rattle.wire.specs.FrameViews.{frame_seen, BeginsWith}
use Rattle.wire.specs.Laws.{IsReadAs}
use Rattle.wire.specs.Responses.{ResponseContent, Refused}
use Rattle.wire.proofs.Frames.{length-frame_bytes}
use Rattle.play.specs.Hearing.{response_text}
use Rattle.play.specs.Lines.{as_lines, of_session}
use Rattle.play.specs.Telling.{session_lines, AreFramesOf, HaveMemory, HeardFrame}

abbrev pub heard_bytes : List HeardFrame → List ℕ
heard_bytes = flat_map (λ one. frame_bytes one.0)

-- the lines so far, and those of the frames that are left, are all the lines
pub record IsMidway (session : ℕ) (before : List ℕ) (heard : List HeardFrame) (rest text : List ℕ) : Type 0 where
  pub left : List HeardFrame
  pub are : AreFramesOf rest left
  pub told : text ++ as_lines (session_lines session left) ≡ before ++ as_lines (session_lines session heard)
  pub memory : HaveMemory left → HaveMemory heard

pub begun : (session : ℕ) (before rest : List ℕ) (heard : List HeardFrame) → AreFramesOf rest heard → IsMidway session before heard rest before
begun session before rest heard are = record { left = heard; are = are; told = refl; memory = λ memory. memory }

none_read : read_frame [] ≡ Err fault.Short
unfolding read_frame
none_read = refl

module _ (field : IsField read_frame frame_bytes IsFrame) where
  first_read : (rest : List ℕ) (one : HeardFrame) (more : List HeardFrame) → AreFramesOf rest (one ∷ more) → read_frame rest ≡ Ok (one.0, heard_bytes more)
  first_read rest one more (same, are) = ap read_frame same ∙ field.again one.0 (heard_bytes more) are.0.0

  -- the first frame that is left
  pub record IsFirst (rest : List ℕ) (left : List HeardFrame) (view : FrameView) : Type 0 where
    pub responded : ResponseContent
    pub more : List HeardFrame
    pub is : left ≡ (frame_seen view, responded) ∷ more
    pub read : IsReadAs (frame_seen view) responded
    pub behind : AreFramesOf (drop (5 + length view.body.now) rest) more

  pub left_first : (rest : List ℕ) (left : List HeardFrame) (view : FrameView) → AreFramesOf rest left → read_frame rest ≡ Ok (frame_seen view, drop (5 + length view.body.now) rest) → IsFirst rest left view
  left_first rest [] view (same, are) read = absurd (let e = sym none_read ∙ ap read_frame (sym same) ∙ read in cc)
  left_first rest (one ∷ more) view (same, are) read =
      let e = sym (first_read rest one more (same, are)) ∙ read in
      let both : (one.0, heard_bytes more) ≡ (frame_seen view, drop (5 + length view.body.now) rest) = cc in
      let frame : one.0 ≡ frame_seen view = ap (λ (read : Frame × List ℕ). read.0) both in
      let back : heard_bytes more ≡ drop (5 + length view.body.now) rest = ap (λ (read : Frame × List ℕ). read.1) both in
      record {
        responded = one.1;
        more = more;
        is = ap (λ (f : Frame). (f, one.1) ∷ more) frame;
        read = subst (λ (f : Frame). IsReadAs f one.1) frame are.0;
        behind = (sym back, are.1);
      }

  -- one line more is told
  pub told_first : (session : ℕ) (before rest text text_after : List ℕ) (heard : List HeardFrame) (view : FrameView) (m : IsMidway session before heard rest text) (first : IsFirst rest m.left view)
      → text_after ≡ text ++ (of_session session (response_text first.responded) ++ 10 ∷ []) → first.responded ≢ Refused 14
      → IsMidway session before heard (drop (5 + length view.body.now) rest) text_after
  told_first session before rest text text_after heard view m first same some = record {
    left = first.more;
    are = first.behind;
    told = ap (λ (t : List ℕ). t ++ as_lines (session_lines session first.more)) same
        ∙ append_assoc text (of_session session (response_text first.responded) ++ 10 ∷ []) (as_lines (session_lines session first.more))
        ∙ ap (λ (left : List HeardFrame). text ++ as_lines (session_lines session left)) (sym first.is) ∙ m.told;
    memory = λ memory. m.memory (subst HaveMemory (sym first.is) (some, memory));
  }

  -- where no frame stands in front, none is left
  pub none_left : (rest : List ℕ) (left : List HeardFrame) (front : Front) → AreFramesOf rest left → BeginsWith rest front → ((view : FrameView) → front ≢ Whole view) → left ≡ []
  none_left rest [] front are begins not = refl
  none_left rest (one ∷ more) (Whole view) are begins not = absurd (not view refl)
  none_left rest (one ∷ more) Short are begins not = absurd (let e = sym (first_read rest one more are) ∙ begins in cc)
  none_left rest (one ∷ more) Bad are begins not = absurd (let e = sym (first_read rest one more are) ∙ begins in cc)

-- where no byte is left, no frame is
pub empty_left : (rest : List ℕ) (left : List HeardFrame) → AreFramesOf rest left → length rest ≤ 0 → left ≡ []
empty_left rest [] are none = refl
empty_left rest (one ∷ more) (same, are) none =
    absurd (omega (arith, none, ap length same, length-append (frame_bytes one.0) (heard_bytes more), length-frame_bytes one.0))

-- all lines are told
pub all_told : (session : ℕ) (before rest text : List ℕ) (heard : List HeardFrame) (m : IsMidway session before heard rest text) → m.left ≡ []
    → (text ≡ before ++ as_lines (session_lines session heard)) × HaveMemory heard
all_told session before rest text heard m none = (
  sym (append-nil text) ∙ ap (λ (left : List HeardFrame). text ++ as_lines (session_lines session left)) (sym none) ∙ m.told,
  m.memory (subst HaveMemory (sym none) tt),
)
