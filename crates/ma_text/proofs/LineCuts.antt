-- The first line of a file, and what is left behind it.
use Rattle.std.proofs.Common.{◌≡◌, ℕ, ◌+◌, ◌-◌, ◌<◌, ◌≤◌, Bool, true, false, cond, eqb, ◌&&◌, suc, List, [], ◌∷◌, length, take, drop, get_or, refl, ap, ◌∙◌, arith, inl, inr}
use Rattle.std.specs.List.{position_or_len, before_first, after_first, onto_first}
use Rattle.std.proofs.lemmas.Bool.{cases_Bool, eq-eqb, ne_eqb, and_parts, and_right, and_from}
use Rattle.ma_text.specs.Lines.{lines_of}
use Rattle.ma_text.specs.steps.LineEnds.{without_return}
use Rattle.ma_text.proofs.Firsts.{before_first-yes, before_first-no, after_first-yes, after_first-no, PassesFirst, position_or_len-yes, position_or_len-no}

abbrev pub is_feed : ℕ → Bool
is_feed byte = eqb byte 10

more : (b c : ℕ) (rest : List ℕ) → lines_of (b ∷ c ∷ rest) ≡ cond (eqb b 10) ([] ∷ lines_of (c ∷ rest)) (cond (eqb b 13 && eqb c 10) ([] ∷ lines_of rest) (onto_first b (lines_of (c ∷ rest))))
unfolding lines_of
more b c rest = refl

one : (b : ℕ) → lines_of (b ∷ []) ≡ cond (eqb b 10) ([] ∷ []) ((b ∷ []) ∷ [])
unfolding lines_of
one b = refl

pub lines_of-nil : lines_of [] ≡ []
unfolding lines_of
lines_of-nil = refl

-- without a line feed the bytes are one line
pub alone : (b : ℕ) (bytes : List ℕ) → length (b ∷ bytes) ≤ position_or_len is_feed (b ∷ bytes) → lines_of (b ∷ bytes) ≡ (b ∷ bytes) ∷ []
alone b [] h =
    elim (cases_Bool (eqb b 10)) [
      | inl feed ↦ absurd (omega (arith, position_or_len-yes is_feed b [] feed))
      | inr other ↦ one b ∙ rw other refl
    ]
alone b (c ∷ rest) h =
    elim (cases_Bool (eqb b 10)) [
      | inl feed ↦ absurd (omega (arith, position_or_len-yes is_feed b (c ∷ rest) feed))
      | inr other ↦ let h' : length (c ∷ rest) ≤ position_or_len is_feed (c ∷ rest) = omega (arith, position_or_len-no is_feed b (c ∷ rest) other) in
          elim (cases_Bool (eqb c 10)) [
            | inl feed ↦ absurd (omega (arith, position_or_len-yes is_feed c rest feed))
            | inr none ↦ more b c rest ∙ rw (other, and_right (eqb b 13) (eqb c 10) none) (ap (onto_first b) (alone c rest h'))
          ]
    ]

not_last : (b c : ℕ) (rest : List ℕ) → (eqb b 13 && eqb c 10) ≡ false → without_return (b ∷ before_first is_feed (c ∷ rest)) ≡ b ∷ without_return (before_first is_feed (c ∷ rest))
not_last b c rest e =
    elim (cases_Bool (eqb c 10)) [
      | inl feed ↦ elim (cases_Bool (eqb b 13)) [
        | inl return ↦ absurd (let both : (eqb b 13 && eqb c 10) ≡ true = and_from _ _ return feed in cc)
        | inr byte ↦ rw (before_first-yes is_feed c rest feed) (rw byte refl)
      ]
      | inr other ↦ rw (before_first-no is_feed c rest other) refl
    ]

joined : {lines : List (List ℕ)} {line line' rest rest' : List ℕ} → lines ≡ line ∷ lines_of rest → line' ≡ line → rest' ≡ rest → lines ≡ line' ∷ lines_of rest'
joined e p q = rw (p, q) e

-- the first line ends at the first line feed
pub first : (bytes : List ℕ) → position_or_len is_feed bytes < length bytes → lines_of bytes ≡ without_return (before_first is_feed bytes) ∷ lines_of (after_first is_feed bytes)
first [] h = absurd (omega arith)
first (b ∷ []) h =
    elim (cases_Bool (eqb b 10)) [
      | inl feed ↦ one b ∙ rw (feed, lines_of-nil) refl
      | inr other ↦ absurd (omega (arith, position_or_len-no is_feed b [] other))
    ]
first (b ∷ c ∷ rest) h =
    elim (cases_Bool (eqb b 10)) [
      | inl feed ↦ more b c rest ∙ rw feed refl
      | inr other ↦ let h' : position_or_len is_feed (c ∷ rest) < length (c ∷ rest) = omega (arith, position_or_len-no is_feed b (c ∷ rest) other) in
          elim (cases_Bool (eqb b 13 && eqb c 10)) [
            | inl end ↦ let both = and_parts (eqb b 13) (eqb c 10) end in
                let before : without_return (before_first is_feed (b ∷ c ∷ rest)) ≡ [] = ap without_return (before_first-no is_feed b (c ∷ rest) other ∙ ap (λ l. b ∷ l) (before_first-yes is_feed c rest both.1)) ∙ rw both.0 refl in
                let after : after_first is_feed (b ∷ c ∷ rest) ≡ rest = after_first-no is_feed b (c ∷ rest) other ∙ after_first-yes is_feed c rest both.1 in
                joined (more b c rest ∙ rw (other, end) refl) before after
            | inr mid ↦ let before : without_return (before_first is_feed (b ∷ c ∷ rest)) ≡ b ∷ without_return (before_first is_feed (c ∷ rest)) = ap without_return (before_first-no is_feed b (c ∷ rest) other) ∙ not_last b c rest mid in
                joined (more b c rest ∙ rw (other, mid) (ap (onto_first b) (first (c ∷ rest) h'))) before (after_first-no is_feed b (c ∷ rest) other)
          ]
    ]

last_is : (b c : ℕ) (rest : List ℕ) → length (b ∷ c ∷ rest) - 1 ≡ suc (length (c ∷ rest) - 1)
last_is b c rest = omega arith

-- the last byte is a carriage return
pub chops : (line : List ℕ) → 1 ≤ length line → get_or line (length line - 1) 0 ≡ 13 → take (length line - 1) line ≡ without_return line
chops [] h e = absurd (omega arith)
chops (b ∷ []) h e = rw (eq-eqb b 13 e) refl
chops (b ∷ c ∷ rest) h e =
    let e' : get_or (c ∷ rest) (length (c ∷ rest) - 1) 0 ≡ 13 = rw last_is at e in
    rw (last_is b c rest) (ap (λ l. b ∷ l) (chops (c ∷ rest) (omega arith) e'))

-- the last byte is another
pub keeps : (line : List ℕ) → (get_or line (length line - 1) 0 ≡ 13 → ⊥) → line ≡ without_return line
keeps [] h = refl
keeps (b ∷ []) h = rw (ne_eqb b 13 h) refl
keeps (b ∷ c ∷ rest) h = ap (λ l. b ∷ l) (keeps (c ∷ rest) (λ e. h (rw (last_is b c rest) e)))

-- bytes, of which there are some, without a line feed
pub one_line : (bytes : List ℕ) → false ≡ eqb (length bytes) 0 → length bytes ≤ position_or_len is_feed bytes → lines_of bytes ≡ bytes ∷ lines_of []
one_line [] some h = absurd cc
one_line (b ∷ bytes) some h = alone b bytes h ∙ rw lines_of-nil refl

-- the line that ends at the first line feed, which stands at i
pub first_line : (bytes : List ℕ) (i : ℕ) (line : List ℕ) → PassesFirst is_feed bytes i → line ≡ without_return (take i bytes) → lines_of bytes ≡ line ∷ lines_of (take (length bytes - (i + 1)) (drop (i + 1) bytes))
first_line bytes i line p is = rw (is, p.before, p.after) (first bytes p.within)
