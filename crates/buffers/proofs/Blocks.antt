-- What a buffer holds after blocks of frames, of any box, with any cells of a frame. Assumes nothing.
use Prim.Native.Nat.{ℕ, zero, suc, ◌+◌, ◌*◌, ◌-◌, ◌≤◌}
use native.Mathlib.Nat.{zero-mul, suc-mul, add-mul, zero-add}
use native.Mathlib.Omega.{arith}
use mathlib.Core.Path.{◌≡◌, refl, sym, ◌∙◌, ap}
use mathlib.Core.List.{List, [], ◌∷◌, ◌++◌, map, append_assoc}
use lib.ListN.{length, take, drop, length-append}
use lib.Seq.{sets, sets-eq, length-sets, drop-drop}
use Rattle.laws.specs.Made.{Made}
use Rattle.laws.specs.Runs.{after, given}
use Rattle.laws.proofs.Lists.{sets-append}
use Rattle.laws.proofs.Runs.{after-parts, given-parts}

-- a part of a buffer that was lent, and came back filled
lent_part : {A : Type 0} (out cells : List A) (at n : ℕ) → length cells ≡ n → at + n ≤ length out → take at out ++ (cells ++ drop n (drop at out)) ≡ sets out at cells
lent_part out cells at n e h = rw (sets-eq cells out at (rw e h), e, drop-drop n at out, append_assoc)

module _ {State A : Type 0} (step : State → State) (gives : State → List A) (width : ℕ) (wide : (s : State) → length (gives s) ≡ width) where
  -- so many frames give so many cells
  pub length-given : (n : ℕ) (s : State) → length (given step gives n s) ≡ n * width
  unfolding given
  length-given zero s = rw zero-mul
  length-given (suc n) s = rw (length-append, wide s, length-given n (step s), suc-mul) (omega arith)

module _ {State A : Type 0} (Good : State → Type 0) (step : State → State) (gives : State → List A) (width : ℕ) (m : State) (out₀ : List A) where
  -- blocks so far: the state s, and `at` cells written from the front on
  pub record Filling (s : State) (at : ℕ) (out : List A) : Type 0 where
    pub frames : ℕ
    pub count : at ≡ frames * width
    pub fits : at ≤ length out₀
    pub state : Made Good (after step frames m) s
    pub content : out ≡ sets out₀ 0 (given step gives frames m)

  pub filling-start : Good m → Filling m 0 out₀
  unfolding after given
  filling-start g = record { frames = 0; count = rw zero-mul; fits = omega arith; state = record { same = refl; valid = g }; content = refl }

  pub filling-long : {s : State} {at : ℕ} {out : List A} → Filling s at out → length out ≡ length out₀
  filling-long f = ap length f.content ∙ length-sets out₀ 0 (given step gives f.frames m)

  module _ (wide : (s : State) → length (gives s) ≡ width) where
    -- one block more, for which the cells from `at` to `end` were lent
    pub filling-turn : {s t : State} {at end : ℕ} {out cells : List A} (n : ℕ) → Filling s at out → Made Good (after step n s) t → cells ≡ given step gives n s → end ≡ at + n * width → end ≤ length out₀
        → Filling t end (take at out ++ (cells ++ drop (end - at) (drop at out)))
    filling-turn {at = at} {end} {out} {cells} n f made gave e fits =
        let given₀ = given step gives f.frames m in
        let l : at ≡ length given₀ = f.count ∙ sym (length-given step gives width wide f.frames m) in
        let long : length cells ≡ n * width = ap length gave ∙ length-given step gives width wide n _ in
        let few : end - at ≡ n * width = omega (arith, e) in
        let laid : take at out ++ (cells ++ drop (end - at) (drop at out)) ≡ sets out at cells = rw few (lent_part out cells at (n * width) long (omega (arith, filling-long f, fits, e))) in
        record {
          frames = f.frames + n;
          count = rw (e, f.count, add-mul);
          fits = fits;
          state = record { same = rw (made.same, f.state.same, after-parts step f.frames n m); valid = made.valid };
          content = laid ∙ rw (gave, l, f.content, f.state.same, given-parts step gives f.frames n m, ← sets-append out₀ 0 given₀ (given step gives n (after step f.frames m)), zero-add);
        }

    -- and no more: the cells after them are as they were
    pub filling-end : {s : State} {at : ℕ} {out : List A} (f : Filling s at out) → out ≡ given step gives f.frames m ++ drop at out₀
    filling-end f =
        let l = length-given step gives width wide f.frames m ∙ sym f.count in
        f.content ∙ rw (sets-eq (given step gives f.frames m) out₀ 0 (rw (zero-add, l) f.fits), zero-add, l)

-- ---- each sample scaled

map-append : {A B : Type 0} (f : A → B) (x y : List A) → map f (x ++ y) ≡ map f x ++ map f y
map-append f [] y = refl
map-append f (a ∷ x) y = ap (λ (l : List _). f a ∷ l) (map-append f x y)

pub map-given : {State A B : Type 0} (f : A → B) (step : State → State) (raw : State → List A) (n : ℕ) (s : State) → map f (given step raw n s) ≡ given step (λ s. map f (raw s)) n s
unfolding given
map-given f step raw zero s = refl
map-given f step raw (suc n) s = rw (map-append, map-given f step raw n (step s))
