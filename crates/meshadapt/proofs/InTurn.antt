-- What was put before comes before what is put then.
use Rattle.std.proofs.Common.{◌≡◌, ℕ, List, [], ◌++◌, Option, Some, None, inl, inr, sym, subst, ap, ◌∙◌, append_assoc, take}
use Rattle.std.specs.Prelude.{IfSome}
use Rattle.ma_io.specs.Count.{Rose}
use Rattle.ma_io.specs.Received.{Received}
use Rattle.meshadapt.specs.Outcome.{Puts, PutsFront, PutsLast}

told_then : (first then : List ℕ) (w w1 w2 : Option (List ℕ))
    → IfSome w (λ before. w1 ≡ Some (before ++ first)) → IfSome w1 (λ before. w2 ≡ Some (before ++ then)) → IfSome w (λ before. w2 ≡ Some (before ++ (first ++ then)))
told_then first then None w1 w2 h k = tt
told_then first then (Some before) w1 w2 h k =
    let k' : w2 ≡ Some ((before ++ first) ++ then) = subst (λ (w : Option (List ℕ)). IfSome w (λ b. w2 ≡ Some (b ++ then))) h k in
    k' ∙ ap Some (append_assoc before first then)

pub puts_then : (first then : List ℕ) (s m t : Received) → Puts first s m → Puts then m t → Puts (first ++ then) s t
puts_then first then s m t h k = (k.0 ∙ h.0, told_then first then s.written m.written t.written h.1 k.1)

told_front : (first bytes line : List ℕ) (w w1 w2 : Option (List ℕ))
    → IfSome w (λ before. w1 ≡ Some (before ++ first)) → IfSome w1 (λ before. (n : ℕ) × (w2 ≡ Some (before ++ (bytes ++ take n line))))
    → IfSome w (λ before. (n : ℕ) × (w2 ≡ Some (before ++ ((first ++ bytes) ++ take n line))))
told_front first bytes line None w1 w2 h k = tt
told_front first bytes line (Some before) w1 w2 h k =
    let k' : (n : ℕ) × (w2 ≡ Some ((before ++ first) ++ (bytes ++ take n line))) = subst (λ (w : Option (List ℕ)). IfSome w (λ b. (n : ℕ) × (w2 ≡ Some (b ++ (bytes ++ take n line))))) h k in
    (k'.0, k'.1 ∙ ap Some (append_assoc before first (bytes ++ take k'.0 line) ∙ ap (λ (more : List ℕ). before ++ more) (sym (append_assoc first bytes (take k'.0 line)))))

pub front_then : (first bytes line : List ℕ) (s m t : Received) → Puts first s m → PutsFront bytes line m t → PutsFront (first ++ bytes) line s t
front_then first bytes line s m t h k = (subst (λ (n : ℕ). Rose n t.faults) h.0 k.0, told_front first bytes line s.written m.written t.written h.1 k.1)

told_after : (first line : List ℕ) (w w1 w2 : Option (List ℕ))
    → IfSome w (λ before. w1 ≡ Some (before ++ first)) → IfSome w1 (λ before. (n : ℕ) × (w2 ≡ Some (before ++ take n line)))
    → IfSome w (λ before. (n : ℕ) × (w2 ≡ Some (before ++ (first ++ take n line))))
told_after first line None w1 w2 h k = tt
told_after first line (Some before) w1 w2 h k =
    let k' : (n : ℕ) × (w2 ≡ Some ((before ++ first) ++ take n line)) = subst (λ (w : Option (List ℕ)). IfSome w (λ b. (n : ℕ) × (w2 ≡ Some (b ++ take n line)))) h k in
    (k'.0, k'.1 ∙ ap Some (append_assoc before first (take k'.0 line)))

pub front_after : (first line : List ℕ) (s m t : Received) → Puts first s m → PutsFront [] line m t → PutsFront first line s t
front_after first line s m t h k = (subst (λ (n : ℕ). Rose n t.faults) h.0 k.0, told_after first line s.written m.written t.written h.1 k.1)

pub last_after : (first line : List ℕ) (s m t : Received) → Puts first s m → PutsLast [] line m t → PutsLast first line s t
last_after first line s m t h (inl puts) = inl (puts_then first line s m t h puts)
last_after first line s m t h (inr front) = inr (front_after first line s m t h front)
