-- Bytes open in one way.
use Rattle.std.proofs.Common.{◌≡◌, ◌⊎◌, inl, inr, ℕ, ◌+◌, List, [], ◌∷◌, ◌++◌, length, append-nil, append_assoc, Option, Some, None, refl, sym, ap, subst, ◌∙◌, arith}
use Rattle.std.specs.List.{AllByRecursion}
use Rattle.rand_core.specs.Stream.{Stream}
use Rattle.encoding.specs.Fields.{Begins, IsField}
use Rattle.encoding.specs.Reading.{Reading}
use Rattle.encoding.proofs.Fields.{one_spelling}
use Rattle.book.specs.declared.record.Record.{Record}
use Rattle.book.specs.Books.{Book}
use Rattle.book.specs.Fresh.{fresh}
use Rattle.book.specs.Replays.{replayed, replayed_all}
use Rattle.journal.specs.declared.beginning.Beginning.{Beginning}
use Rattle.journal.specs.Openings.{HasKeys, HasOtherKeys, IsBad, IsBadNext, IsCut, OpensTo, ReachesBook}
use Rattle.journal.specs.Records.{read_later, read_start, record_bytes, records_bytes, start_bytes, IsLater, IsStart}
use Rattle.journal.proofs.Spelled.{later_field, start_field}

-- where a spelling is whole, none is cut short
whole_or_cut : {A : Type 0} (f : List ℕ → Reading A) (s : A → List ℕ) (P : A → Type 0) → IsField f s P → (bytes : List ℕ) → Begins s P bytes → ¬ IsCut s P bytes
whole_or_cut f s P field bytes (x, rest, is, ok) (y, more, cut, some, fine) =
    let e = one_spelling f s P field y x [] (rest ++ more) fine ok (append-nil (s y) ∙ cut ∙ ap (λ (t : List ℕ). t ++ more) is ∙ append_assoc (s x) rest more) in
    some (nothing rest more (sym e.1))
  where
    nothing : (one two : List ℕ) → one ++ two ≡ [] → two ≡ []
    nothing [] two h = h
    nothing (n ∷ one) two h = absurd cc

some_same : (one two : Book) → (let left : Option Book = Some one in left) ≡ Some two → one ≡ two
some_same one two e = cc

some_none : (one : Book) → (let left : Option Book = Some one in left) ≡ None → ⊥
some_none one e = absurd cc

module _ (by : List ℕ → List ℕ) where
  -- what remains after one record more
  pub led : (before book : Book) (kept : Record) (records : List Record) → replayed_all by before (kept ∷ records) ≡ Some book → (middle : Book) × (replayed by before kept ≡ Some middle) × (replayed_all by middle records ≡ Some book)
  led before book kept records e = by_one (replayed by before kept) refl
    where
      by_one : (one : Option Book) → replayed by before kept ≡ one → (middle : Book) × (replayed by before kept ≡ Some middle) × (replayed_all by middle records ≡ Some book)
      by_one None is = absurd (some_none book (sym e ∙ rw is refl))
      by_one (Some middle) is = (middle, is, sym (rw is refl) ∙ e)

  -- two lists of records that begin the same bytes, the first of which ends at a cut: the second is no
  -- longer, and where it is shorter a record follows it that is carried out
  abbrev Follow : Book → List ℕ → Book → List ℕ → Type 0
  Follow book rest other left = ((book ≡ other) × (rest ≡ left)) ⊎ ((kept : Record) × (more : List ℕ) × (middle : Book) × (left ≡ record_bytes kept ++ more) × IsLater kept × (replayed by other kept ≡ Some middle))

  follow : (records others : List Record) (before book other : Book) (bytes rest left : List ℕ)
      → bytes ≡ records_bytes records ++ rest → AllByRecursion IsLater records → replayed_all by before records ≡ Some book → IsCut record_bytes IsLater rest
      → bytes ≡ records_bytes others ++ left → AllByRecursion IsLater others → replayed_all by before others ≡ Some other
      → Follow book rest other left
  follow [] [] before book other bytes rest left is all leads cut so fine goes = inl (sym (some_same before book leads) ∙ some_same before other goes, sym is ∙ so)
  follow [] (kept ∷ others) before book other bytes rest left is all leads cut so fine goes =
      absurd (whole_or_cut read_later record_bytes IsLater later_field rest (kept, records_bytes others ++ left, sym is ∙ so ∙ append_assoc (record_bytes kept) (records_bytes others) left, fine.0) cut)
  follow (kept ∷ records) [] before book other bytes rest left is all leads cut so fine goes =
      let one = led before book kept records leads in
      inr (kept, records_bytes records ++ rest, one.0, sym so ∙ is ∙ append_assoc (record_bytes kept) (records_bytes records) rest, all.0, subst (λ (b : Book). replayed by b kept ≡ Some one.0) (some_same before other goes) one.1)
  follow (kept ∷ records) (put ∷ others) before book other bytes rest left is all leads cut so fine goes =
      let same = one_spelling read_later record_bytes IsLater later_field kept put (records_bytes records ++ rest) (records_bytes others ++ left) all.0 fine.0
      (sym (append_assoc (record_bytes kept) (records_bytes records) rest) ∙ sym is ∙ so ∙ append_assoc (record_bytes put) (records_bytes others) left) in
      let one = led before book kept records leads in
      let two = led before other put others goes in
      let middles = some_same one.0 two.0 (sym one.1 ∙ ap (λ (k : Record). replayed by before k) same.0 ∙ two.1) in
      follow records others one.0 book other (records_bytes records ++ rest) rest left refl all.1 one.2 cut same.1 fine.1 (subst (λ (b : Book). replayed_all by b others ≡ Some other) (sym middles) two.2)

  -- two openings of the same bytes begin alike, and the one that ends at a cut has all records of the other
  module _ (signing_key vuf_key : List ℕ) (salts : Stream) where
    one_start : (bytes : List ℕ) (one other : Beginning) (later rest : List ℕ) → bytes ≡ start_bytes one ++ later → IsStart one → bytes ≡ start_bytes other ++ rest → IsStart other → (other ≡ one) × (rest ≡ later)
    one_start bytes one other later rest is start so fine = one_spelling read_start start_bytes IsStart start_field other one rest later fine start (sym so ∙ is)

    followed : (bytes : List ℕ) (book other : Book) (rest left : List ℕ) → ReachesBook by signing_key vuf_key salts bytes book rest → IsCut record_bytes IsLater rest
        → ReachesBook by signing_key vuf_key salts bytes other left → Follow book rest other left
    followed bytes book other rest left (one, later, is, start, positive, keys, (records, spelled, all, leads)) cut (two, behind, so, fine, more, with_keys, (others, told, each, goes)) =
        let same = one_start bytes one two later behind is start so fine in
        follow records others (fresh one.epoch one.nonce salts) book other later rest left spelled all leads cut
        (sym same.1 ∙ told) each (subst (λ (b : Beginning). replayed_all by (fresh b.epoch b.nonce salts) others ≡ Some other) same.0 goes)

    lengths : (bytes rest left : List ℕ) (taken count : ℕ) → length bytes ≡ taken + length rest → length bytes ≡ count + length left → rest ≡ left → count ≡ taken
    lengths bytes rest left taken count one two same = omega (arith, one, two, ap length same)

    same_opening : (bytes : List ℕ) (book other : Book) (rest left : List ℕ) (taken count : ℕ) → length bytes ≡ taken + length rest → length bytes ≡ count + length left
        → IsCut record_bytes IsLater left → Follow book rest other left → (other ≡ book) × (count ≡ taken)
    same_opening bytes book other rest left taken count one two cut (inl h) = (sym h.0, lengths bytes rest left taken count one two h.1)
    same_opening bytes book other rest left taken count one two cut (inr (kept, more, middle, is, later, does)) =
        absurd (whole_or_cut read_later record_bytes IsLater later_field left (kept, more, is, later) cut)

    not_next : (book other : Book) (rest left : List ℕ) → IsCut record_bytes IsLater rest → IsBadNext by other left → Follow book rest other left → ⊥
    not_next book other rest left cut (inl none) (inl h) = none.1 (subst (λ (r : List ℕ). IsCut record_bytes IsLater r) h.1 cut)
    not_next book other rest left cut (inl none) (inr (kept, more, middle, is, later, does)) = none.0 (kept, more, is, later)
    not_next book other rest left cut (inr (put, behind, so, fine, refused)) (inl h) =
        whole_or_cut read_later record_bytes IsLater later_field rest (put, behind, h.1 ∙ so, fine) cut
    not_next book other rest left cut (inr (put, behind, so, fine, refused)) (inr (kept, more, middle, is, later, does)) =
        let same = one_spelling read_later record_bytes IsLater later_field kept put more behind later fine (sym is ∙ so) in
        some_none middle (sym does ∙ ap (λ (k : Record). replayed by other k) same.0 ∙ refused)

    not_bad : (bytes : List ℕ) (book : Book) (rest : List ℕ) → ReachesBook by signing_key vuf_key salts bytes book rest → IsCut record_bytes IsLater rest → IsBad by signing_key vuf_key salts bytes → ⊥
    not_bad bytes book rest (one, later, is, start, positive, keys, leads) cut (inl none) = none.0 (one, later, is, start)
    not_bad bytes book rest (one, later, is, start, positive, keys, leads) cut (inr (inl (two, behind, so, fine, zero_epoch))) =
        let same = one_start bytes one two later behind is start so fine in
        omega (arith, positive, zero_epoch, ap (λ (b : Beginning). b.epoch) same.0)
    not_bad bytes book rest reaches cut (inr (inr (other, left, others, bad))) = not_next book other rest left cut bad (followed bytes book other rest left reaches cut others)

    not_others : (bytes : List ℕ) (book : Book) (rest : List ℕ) → ReachesBook by signing_key vuf_key salts bytes book rest → HasOtherKeys signing_key vuf_key bytes → ⊥
    not_others bytes book rest (one, later, is, start, positive, keys, leads) (two, behind, so, fine, more, other) =
        let same = one_start bytes one two later behind is start so fine in
        other (subst (λ (b : Beginning). HasKeys signing_key vuf_key b) (sym same.0) keys)

    pub settled : (bytes : List ℕ) (book other : Book) (taken count : ℕ) → OpensTo by signing_key vuf_key salts bytes book taken
        → (OpensTo by signing_key vuf_key salts bytes other count → (other ≡ book) × (count ≡ taken))
        × (¬ IsCut start_bytes IsStart bytes) × (¬ IsBad by signing_key vuf_key salts bytes) × (¬ HasOtherKeys signing_key vuf_key bytes)
    settled bytes book other taken count (rest, reaches, cut, many) = (
      λ (left, others, end, much). same_opening bytes book other rest left taken count many much end (followed bytes book other rest left reaches cut others),
      whole_or_cut read_start start_bytes IsStart start_field bytes (reaches.0, reaches.1, reaches.2, reaches.3),
      not_bad bytes book rest reaches cut,
      not_others bytes book rest reaches,
    )

    -- a start that was cut short has no fault
    cut_not_bad : (bytes : List ℕ) → IsCut start_bytes IsStart bytes → IsBad by signing_key vuf_key salts bytes → ⊥
    cut_not_bad bytes cut (inl none) = none.1 cut
    cut_not_bad bytes cut (inr (inl (two, behind, so, fine, zero_epoch))) = whole_or_cut read_start start_bytes IsStart start_field bytes (two, behind, so, fine) cut
    cut_not_bad bytes cut (inr (inr (other, left, others, bad))) = whole_or_cut read_start start_bytes IsStart start_field bytes (others.0, others.1, others.2, others.3) cut

    -- a bad journal is none of other keys
    bad_not_others : (bytes : List ℕ) → IsBad by signing_key vuf_key salts bytes → HasOtherKeys signing_key vuf_key bytes → ⊥
    bad_not_others bytes (inl none) (two, behind, so, fine, more, other) = none.0 (two, behind, so, fine)
    bad_not_others bytes (inr (inl (one, later, is, start, zero_epoch))) (two, behind, so, fine, more, other) =
        let same = one_start bytes one two later behind is start so fine in
        omega (arith, more, zero_epoch, ap (λ (b : Beginning). b.epoch) same.0)
    bad_not_others bytes (inr (inr (book, rest, reaches, bad))) others = not_others bytes book rest reaches others

    pub faults_settled : (bytes : List ℕ)
        → (IsCut start_bytes IsStart bytes → (¬ IsBad by signing_key vuf_key salts bytes) × (¬ HasOtherKeys signing_key vuf_key bytes))
        × (IsBad by signing_key vuf_key salts bytes → ¬ HasOtherKeys signing_key vuf_key bytes)
    faults_settled bytes = (
      λ cut. (
        cut_not_bad bytes cut,
        λ others. whole_or_cut read_start start_bytes IsStart start_field bytes (others.0, others.1, others.2, others.3) cut,
      ),
      bad_not_others bytes,
    )
