-- What holds of each table of kinds whose bytes differ: a message is of one kind, and a body of a kind is read
-- as the one message that it spells.
use Rattle.std.proofs.Common.{◌≡◌, ◌≢◌, ℕ, ◌<◌, ◌&&◌, Bool, true, false, cond, eqb, ltb, Option, Some, None, List, [], ◌∷◌, ◌++◌, Ok, Err, refl, sym, ap, subst, ◌∙◌, arith}
use Rattle.std.proofs.lemmas.Bool.{and_parts, eqb-true, ltb-true}
use Rattle.std.proofs.lemmas.List.{append-nil}
use Rattle.encoding.specs.declared.fault.Fault.{Fault}
use Rattle.encoding.specs.Bytes.{IsBytes}
use Rattle.encoding.specs.Fields.{IsField, Spells}
use Rattle.encoding.specs.Reading.{Reading, read_as}
use Rattle.encoding.proofs.Fields.{bind_ok, ok_is, one_spelling, whole-read, whole-refused, whole-left}
use Rattle.wire.specs.declared.message_refusals.ReadRefusal.{ReadRefusal}
use Rattle.wire.specs.declared.message_refusals.ReadRefusal.TheVariants.{BadKind, BadBody}
use Rattle.wire.specs.Tables.{KindRow, MessageParts, Of, Content, kind_among, or_bad_body, parts_frame, parts_kind, parts_message, read_by, reader, spelling, Allowed, IsCounted, MayHave}
use Rattle.wire.proofs.Forms.{any, form_field}

-- a case of a data type, read by its parts
made_field : {A B : Type 0} (to : A → B) (f : List ℕ → Reading A) (s : A → List ℕ) (P : A → Type 0) (t : B → List ℕ) (Q : B → Type 0)
    → ((x : A) → P x → (s x ≡ t (to x)) × Q (to x)) → ((y : B) → Q y → (x : A) × (to x ≡ y) × P x) → IsField f s P → IsField (read_as to f) t Q
made_field {A} {B} to f s P t Q made from field =
    record {
      spelled = λ bytes z small e.
          let u = bind_ok (f bytes) (λ x. Ok (to x.0, x.1)) z e in
          let one = field.spelled bytes u.0 small u.1 in
          let m = made u.0.0 one.1 in
          let told : B × List ℕ = (to u.0.0, u.0.1) in
          subst (λ (w : B × List ℕ). (bytes ≡ t w.0 ++ w.1) × Q w.0) (ok_is told z u.2)
          (one.0 ∙ ap (λ (w : List ℕ). w ++ u.0.1) m.0, m.1);
      again = λ y rest h.
          let g = from y h in
          let same : t y ≡ s g.0 = ap t (sym g.1) ∙ sym (made g.0 g.2).0 in
          ap (λ (w : List ℕ). read_as to f (w ++ rest)) same ∙ rw (field.again g.0 rest g.2) (ap (λ (w : B). Ok (w, rest)) g.1);
    }

-- bytes spell at most one value of a form
pub one_value : {A : Type 0} (f : List ℕ → Reading A) (s : A → List ℕ) (P : A → Type 0) → IsField f s P → (bytes : List ℕ) (x y : A) → Spells s P bytes x → Spells s P bytes y → x ≡ y
one_value f s P field bytes x y one two =
    (one_spelling f s P field x y [] [] one.1 two.1 (append-nil (s x) ∙ sym one.0 ∙ two.0 ∙ sym (append-nil (s y)))).0

fault_of : {M : Type 0} (reading : Reading M) (refusal : ReadRefusal) → or_bad_body reading ≡ Err refusal → (refusal ≡ BadBody) × ((fault : Fault) × (reading ≡ Err fault))
fault_of (Ok read) refusal e = absurd cc
fault_of (Err fault) refusal e = (cc, (fault, refl))

read_of : {M : Type 0} (reading : Reading M) (read : M × List ℕ) → or_bad_body reading ≡ Ok read → reading ≡ Ok read
read_of {M} (Ok given) read e = let same : given ≡ read = cc in ap (λ (x : M × List ℕ). Ok x) same
read_of (Err fault) read e = absurd cc

some_is : {A : Type 0} (x y : A) → Some x ≡ Some y → x ≡ y
some_is x y e = cc

-- these rows name these messages: each kind is found by its byte, and a message has the parts that make it
module _ {Message Kind : Type 0} (row : Kind → KindRow Message) (kinds : List Kind) (parts : Message → MessageParts row) where
  pub record IsTable : Type 0 where
    pub found : (kind : Kind) → kind_among row kinds (row kind).byte ≡ Some kind
    pub taken : (kind : Kind) (content : Content (row kind).form) → parts ((row kind).message content) ≡ Of kind content
    pub made : (message : Message) → parts_message row (parts message) ≡ message

  abbrev body_of : Message → List ℕ
  body_of message = (parts_frame row (parts message)).body

  abbrev byte_of : Message → ℕ
  byte_of message = (parts_frame row (parts message)).kind

  abbrev IsAllowed : Message → Type 0
  IsAllowed message = MayHave row IsCounted (parts message)

  abbrev IsOfKind : ℕ → Message → Type 0
  IsOfKind byte message = IsAllowed message × (byte_of message ≡ byte)

  -- the body spells this message, which is of the kind
  abbrev Says : ℕ → List ℕ → Message → Type 0
  Says byte body message = (byte_of message ≡ byte) × Spells body_of IsAllowed body message

  abbrev IsKind : ℕ → Type 0
  IsKind byte = (message : Message) × (byte_of message ≡ byte)

  -- of the kind there are messages, and the body spells none
  abbrev IsNone : ℕ → List ℕ → Type 0
  IsNone byte body = IsKind byte × ((message : Message) → ¬ Says byte body message)

  abbrev all_small : List Kind → Bool
  all_small [] = true
  all_small (kind ∷ more) = ltb (row kind).byte 256 && all_small more

  -- what is found has the byte
  among_byte : (all : List Kind) (byte : ℕ) (kind : Kind) → kind_among row all byte ≡ Some kind → byte ≡ (row kind).byte
  among_byte [] byte kind e = absurd cc
  among_byte (first ∷ more) byte kind e = by (eqb byte (row first).byte) refl e (among_byte more byte kind)
    where
      by : (same : Bool) → eqb byte (row first).byte ≡ same → cond same (Some first) (kind_among row more byte) ≡ Some kind
          → (kind_among row more byte ≡ Some kind → byte ≡ (row kind).byte) → byte ≡ (row kind).byte
      by true is e later = eqb-true byte (row first).byte is ∙ ap (λ (k : Kind). (row k).byte) (some_is first kind e)
      by false is e later = later e

  among_small : (all : List Kind) (byte : ℕ) (kind : Kind) → all_small all ≡ true → kind_among row all byte ≡ Some kind → byte < 256
  among_small [] byte kind small e = absurd cc
  among_small (first ∷ more) byte kind small e =
      let both = and_parts (ltb (row first).byte 256) (all_small more) small in
      by (eqb byte (row first).byte) refl e (among_small more byte kind both.1) (ltb-true (row first).byte 256 both.0)
    where
      by : (same : Bool) → eqb byte (row first).byte ≡ same → cond same (Some first) (kind_among row more byte) ≡ Some kind
          → (kind_among row more byte ≡ Some kind → byte < 256) → (row first).byte < 256 → byte < 256
      by true is e later here = omega (arith, eqb-true byte (row first).byte is, here)
      by false is e later here = later e

  module _ (is : IsTable) where
    -- the kind with a message's byte is its own
    found_by : (p : MessageParts row) → kind_among row kinds (parts_frame row p).kind ≡ Some (parts_kind row p)
    found_by (Of kind content) = is.found kind

    pub of_kind : (message : Message) → kind_among row kinds (byte_of message) ≡ Some (parts_kind row (parts message))
    of_kind message = found_by (parts message)

    pub is_byte : all_small kinds ≡ true → (message : Message) → byte_of message < 256
    is_byte small message = among_small kinds (byte_of message) (parts_kind row (parts message)) small (of_kind message)

    there_is : (kind : Kind) → IsKind (row kind).byte
    there_is kind = ((row kind).message (any (row kind).form), ap (λ (p : MessageParts row). (parts_frame row p).kind) (is.taken kind (any (row kind).form)))

    -- parts with the byte of this kind are of this kind
    abbrev AreOf : Kind → MessageParts row → Type 0
    AreOf kind p = (content : Content (row kind).form) × (p ≡ Of kind content)

    are_of : (kind : Kind) (p : MessageParts row) → (parts_frame row p).kind ≡ (row kind).byte → AreOf kind p
    are_of kind (Of other content) same =
        let given : MessageParts row = Of other content in
        subst (λ (k : Kind). (c : Content (row k).form) × (given ≡ Of k c)) (some_is other kind (sym (is.found other) ∙ ap (kind_among row kinds) same ∙ is.found kind)) (content, refl)

    -- a kind's reader reads its messages
    kind_field : (kind : Kind) → IsField (read_as (row kind).message (reader (row kind).form)) body_of (IsOfKind (row kind).byte)
    kind_field kind = made_field (row kind).message (reader (row kind).form) (spelling (row kind).form) (Allowed (row kind).form) body_of (IsOfKind (row kind).byte) to from (form_field (row kind).form)
      where
        to : (content : Content (row kind).form) → Allowed (row kind).form content
            → (spelling (row kind).form content ≡ body_of ((row kind).message content)) × IsOfKind (row kind).byte ((row kind).message content)
        to content h =
            subst (λ (p : MessageParts row). (spelling (row kind).form content ≡ (parts_frame row p).body) × (MayHave row IsCounted p × ((parts_frame row p).kind ≡ (row kind).byte)))
            (sym (is.taken kind content)) (refl, (h, refl))

        from : (message : Message) → IsOfKind (row kind).byte message → (content : Content (row kind).form) × ((row kind).message content ≡ message) × Allowed (row kind).form content
        from message h =
            let of = are_of kind (parts message) h.1 in
            (of.0, ap (parts_message row) (sym of.1) ∙ is.made message, subst (MayHave row IsCounted) of.1 h.0)

    -- ---- bodies

    -- where a kind is found, its messages are read; where none is, no message is of it
    abbrev Reads : ℕ → Option Kind → Type 0
    Reads byte (Some kind) = byte ≡ (row kind).byte
    Reads byte None = ¬ IsKind byte

    reads : (byte : ℕ) → Reads byte (kind_among row kinds byte)
    reads byte = by (kind_among row kinds byte) refl
      where
        by : (among : Option Kind) → kind_among row kinds byte ≡ among → Reads byte among
        by (Some kind) e = among_byte kinds byte kind e
        by None e = λ there. absurd (let wrong : None ≡ Some (parts_kind row (parts there.0)) = sym e ∙ ap (kind_among row kinds) (sym there.1) ∙ of_kind there.0 in cc)

    -- a body that spells no content of the form of its kind
    pub no_message : (kind : Kind) (byte : ℕ) (body : List ℕ) → byte ≡ (row kind).byte → ((content : Content (row kind).form) → ¬ Spells (spelling (row kind).form) (Allowed (row kind).form) body content)
        → IsNone byte body
    no_message kind byte body same none = (subst IsKind (sym same) (there_is kind), no)
      where
        no : (message : Message) → ¬ Says byte body message
        no message says =
            let of = are_of kind (parts message) (says.0 ∙ same) in
            none of.0 (subst (λ (p : MessageParts row). (body ≡ (parts_frame row p).body) × MayHave row IsCounted p) of.1 says.1)

    of_byte : (byte : ℕ) (kind : Kind) → byte ≡ (row kind).byte → IsField (read_as (row kind).message (reader (row kind).form)) body_of (IsOfKind byte) × IsKind byte
    of_byte byte kind same = subst (λ (b : ℕ). IsField (read_as (row kind).message (reader (row kind).form)) body_of (IsOfKind b) × IsKind b) (sym same) (kind_field kind, there_is kind)

    -- a body of a kind spells at most one message
    pub one_message : (byte : ℕ) (body : List ℕ) (message other : Message) → Says byte body message → Says byte body other → message ≡ other
    one_message byte body message other one two = by (kind_among row kinds byte) (reads byte)
      where
        by : (among : Option Kind) → Reads byte among → message ≡ other
        by (Some kind) same =
            one_value (read_as (row kind).message (reader (row kind).form)) body_of (IsOfKind byte) (of_byte byte kind same).0 body message other
            (one.1.0, (one.1.1, one.0)) (two.1.0, (two.1.1, two.0))
        by None none = absurd (none (message, one.0))

    pub reads_whole : (byte : ℕ) (body : List ℕ) (message : Message) → IsBytes body → read_by row (kind_among row kinds byte) body ≡ Ok (message, []) → Says byte body message
    reads_whole byte body message small e = by (kind_among row kinds byte) (reads byte) e
      where
        by : (among : Option Kind) → Reads byte among → read_by row among body ≡ Ok (message, []) → Says byte body message
        by (Some kind) same e =
            let read = read_as (row kind).message (reader (row kind).form) in
            let t = whole-read read body_of (IsOfKind byte) (of_byte byte kind same).0 body message small (read_of (read body) (message, []) e) in
            (t.1.1, (t.0, t.1.0))
        by None none e = absurd cc

    pub is_unknown : (byte : ℕ) (body : List ℕ) → read_by row (kind_among row kinds byte) body ≡ Err BadKind → ¬ IsKind byte
    is_unknown byte body e = by (kind_among row kinds byte) (reads byte) e
      where
        by : (among : Option Kind) → Reads byte among → read_by row among body ≡ Err BadKind → ¬ IsKind byte
        by (Some kind) same e = absurd (let t = (fault_of (read_as (row kind).message (reader (row kind).form) body) BadKind e).0 in cc)
        by None none e = none

    pub reads_none : (byte : ℕ) (body : List ℕ) → read_by row (kind_among row kinds byte) body ≡ Err BadBody → IsNone byte body
    reads_none byte body e = by (kind_among row kinds byte) (reads byte) e
      where
        by : (among : Option Kind) → Reads byte among → read_by row among body ≡ Err BadBody → IsNone byte body
        by (Some kind) same e =
            let read = read_as (row kind).message (reader (row kind).form) in
            let is = of_byte byte kind same in
            let t = fault_of (read body) BadBody e in
            (is.1, λ message says. whole-refused read body_of (IsOfKind byte) is.0 body t.1.0 t.1.1 message (says.1.0, (says.1.1, says.0)))
        by None none e = absurd cc

    pub reads_more : (byte : ℕ) (body : List ℕ) (other : Message) (rest : List ℕ) → rest ≢ [] → read_by row (kind_among row kinds byte) body ≡ Ok (other, rest) → IsNone byte body
    reads_more byte body other rest some e = by (kind_among row kinds byte) (reads byte) e
      where
        by : (among : Option Kind) → Reads byte among → read_by row among body ≡ Ok (other, rest) → IsNone byte body
        by (Some kind) same e =
            let read = read_as (row kind).message (reader (row kind).form) in
            let is = of_byte byte kind same in
            (is.1, λ message says. whole-left read body_of (IsOfKind byte) is.0 body other rest (read_of (read body) (other, rest) e) some message (says.1.0, (says.1.1, says.0)))
        by None none e = absurd cc
