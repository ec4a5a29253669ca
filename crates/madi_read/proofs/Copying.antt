-- Laws of the list that the commands go to. Assumes nothing.
use mathlib.Core.Path.{◌≡◌, sym, ap, ◌∙◌}
use mathlib.Core.List.{List, [], ◌∷◌, ◌++◌, append_assoc}
use Prim.Native.Nat.{ℕ, suc, ◌+◌, ◌-◌, ◌≤◌, ◌<◌}
use native.Mathlib.Numerals.{add-one}
use native.Mathlib.Omega.{arith}
use lib.ListN.{length, take, set, replicate, length-set, length-append, length-replicate}
use lib.Seq.{length-take-le, take-suc-set, set-append_seam, take-append_seam}
use Rattle.madi_read.specs.Reader.{list_of}
use Rattle.madi_read.specs.Inner.{Listed}

-- ---- the list of commands

pub length-list : (commands : List ℕ) → length commands ≤ 255 → length (list_of commands) ≡ 255
unfolding list_of
length-list commands h =
    length-append commands (replicate (255 - length commands) 0) ∙ omega (arith, length-replicate {A = ℕ} (255 - length commands) 0)

-- the commands stand in front
pub list-front : (commands : List ℕ) → take (length commands) (list_of commands) ≡ commands
unfolding list_of
list-front commands = take-append_seam commands (replicate (255 - length commands) 0)

-- the first zero becomes a command
list-next : (commands : List ℕ) (c : ℕ) → length commands < 255 → set (list_of commands) (length commands) c ≡ list_of (commands ++ (c ∷ []))
unfolding list_of
list-next commands c h =
    let n = length commands in
    let rest : List ℕ = replicate (255 - suc n) 0 in
    let e : 255 - n ≡ suc (255 - suc n) = omega arith in
    let f : 255 - suc n ≡ 255 - length (commands ++ (c ∷ [])) = omega (arith, length-append commands (c ∷ [])) in
    ap (λ (k : ℕ). set (commands ++ replicate k 0) n c) e ∙ set-append_seam commands 0 rest c
    ∙ ap (λ (k : ℕ). commands ++ (c ∷ replicate k 0)) f ∙ sym (append_assoc commands (c ∷ []) (replicate (255 - length (commands ++ (c ∷ []))) 0))

module _ (s : ℕ) (codes : List ℕ) (l : Listed s codes) where
  pub length-listed : s ≤ 255 → length (take s codes) ≡ s
  length-listed h = length-take-le s codes (omega (arith, l.0))

  -- one more
  pub listed_next : (c : ℕ) → s < 255 → take (s + 1) (set codes s c) ≡ take s codes ++ (c ∷ [])
  listed_next c h = ap (λ (k : ℕ). take k (set codes s c)) (add-one s) ∙ take-suc-set codes s c (omega (arith, l.0))

  pub listed_more : (c : ℕ) → s < 255 → Listed (s + 1) (set codes s c)
  listed_more c h =
      let n : length (take s codes) ≡ s = length-listed (omega arith) in (
        length-set codes s c ∙ l.0,
        ap (λ (x : List ℕ). set x s c) l.1 ∙ ap (λ (k : ℕ). set (list_of (take s codes)) k c) (sym n)
            ∙ list-next (take s codes) c (omega arith) ∙ ap list_of (sym (listed_next c h)),
      )
