-- Place 0 of the registers: no step looks at it and no step changes it, so a run may work with 0 there and have it put back after.
-- Assumes nothing.
use Rattle.std.proofs.Common.{◌≡◌, ℕ, zero, suc, Bool, true, false, cond, not, eqb, List, [], ◌∷◌, get_or, set, sym, refl, ap, ◌∙◌, get_or-set_other, set-set, eqb-true}
use lib.Seq.{set-get_or, set_comm}
use borrow.Author.Tests.{eqb-false}
use Rattle.word.specs.Word.{sum_of, difference_of, product_of, less_of, Cell, At, Nowhere}
use Rattle.instruction.specs.Instruction.{Instruction, ins, Fetched, outside, unknown, found, fetch, count_of}
use Rattle.machine.specs.Step.{Next, Go, Halt, Fault, Did, did, writes, loads, stores, branches, flag_of, read_of, cell_at, rules, perform, tried, step_of}
use Rattle.machine.specs.Run.{Ran, ran, follow, run_of}
use Rattle.machine.proofs.Spared.{IfFound, Spares, spares_other, step_kept, run_kept}

-- where place 0 holds 0, a register reads as what it holds
pub read_cleared : (g : List ℕ) (r : ℕ) → get_or g 0 0 ≡ 0 → get_or g r 0 ≡ read_of g r
unfolding read_of
read_cleared g r h = go (eqb r 0) refl
  where
    go : (t : Bool) → eqb r 0 ≡ t → get_or g r 0 ≡ cond t 0 (get_or g r 0)
    go true e = ap (λ (i : ℕ). get_or g i 0) (eqb-true r 0 e) ∙ h
    go false e = refl

pub cleared : (g : List ℕ) → get_or (set g 0 0) 0 0 ≡ 0
cleared [] = refl
cleared (x ∷ g) = refl

-- no step writes place 0
spares_zero : (f : Fetched) → IfFound (Spares 0) f
spares_zero outside = tt
spares_zero unknown = tt
spares_zero (found (ins o a b c)) = spares_other 0 (λ e. sym e)

step_zero : (code : List ℕ) (p : ℕ) (g m : List ℕ) → get_or (step_of code p g m).registers 0 0 ≡ get_or g 0 0
step_zero code = step_kept 0 code (λ p. spares_zero (fetch code p))

run_zero : (code : List ℕ) (k p : ℕ) (g m : List ℕ) → get_or (run_of code k p g m).registers 0 0 ≡ get_or g 0 0
run_zero code = run_kept 0 code (λ p. spares_zero (fetch code p))

pub step_cleared : (code : List ℕ) (p : ℕ) (g m g' m' : List ℕ) (x : Next) → did x g' m' ≡ step_of code p g m → get_or g 0 0 ≡ 0
    → get_or g' 0 0 ≡ 0
step_cleared code p g m g' m' x e h = ap (λ (d : Did). get_or d.registers 0 0) e ∙ step_zero code p g m ∙ h

-- two tables, entry by entry
abbrev Paired : (Did → Did → Type 0) → List Did → List Did → Type 0
Paired P [] [] = Unit {0}
Paired P [] (e ∷ es) = ⊥
Paired P (d ∷ ds) [] = ⊥
Paired P (d ∷ ds) (e ∷ es) = P d e × Paired P ds es

both_looked_up : (P : Did → Did → Type 0) (ds es : List Did) (d e : Did) → Paired P ds es → P d e → (o : ℕ) → P (get_or ds o d) (get_or es o e)
both_looked_up P [] [] d e h k o = k
both_looked_up P [] (y ∷ es) d e h k o = absurd h
both_looked_up P (x ∷ ds) [] d e h k o = absurd h
both_looked_up P (x ∷ ds) (y ∷ es) d e h k zero = h.0
both_looked_up P (x ∷ ds) (y ∷ es) d e h k (suc o) = both_looked_up P ds es d e h.1 k o

-- the same, with v in place 0
abbrev pub did_with : ℕ → Did → Did
did_with v d = did d.next (set d.registers 0 v) d.memory

abbrev pub ran_with : ℕ → Ran → Ran
ran_with v r = ran r.ending r.left r.place (set r.registers 0 v) r.memory

-- a step does not look at place 0
module _ (n p v : ℕ) (g m : List ℕ) where
  abbrev Same : Did → Did → Type 0
  Same d e = d ≡ did_with v e

  reads : (r : ℕ) → read_of (set g 0 v) r ≡ read_of g r
  unfolding read_of
  reads r = go (eqb r 0) refl
    where
      go : (t : Bool) → eqb r 0 ≡ t → cond t 0 (get_or (set g 0 v) r 0) ≡ cond t 0 (get_or g r 0)
      go true e = refl
      go false e = get_or-set_other g 0 r v 0 (eqb-false r 0 e)

  same_cell : (b i : ℕ) → cell_at (set g 0 v) m b i ≡ cell_at g m b i
  same_cell b i = rw (reads b, reads i)

  writes_same : (a w u : ℕ) → w ≡ u → Same (writes p a w (set g 0 v) m) (writes p a u g m)
  writes_same a w u q = rw q (go (eqb a 0) refl)
    where
      go : (t : Bool) → eqb a 0 ≡ t
          → did (cond t (Fault 3) (Go (suc p))) (cond t (set g 0 v) (set (set g 0 v) a u)) m
          ≡ did (cond t (Fault 3) (Go (suc p))) (set (cond t g (set g a u)) 0 v) m
      go true e = refl
      go false e = ap (λ (r : List ℕ). did (Go (suc p)) r m) (set_comm g 0 a v u (λ s. eqb-false a 0 e (sym s)))

  loads_same : (a : ℕ) (x y : Cell) → x ≡ y → Same (loads p a x (set g 0 v) m) (loads p a y g m)
  loads_same a x y q = rw q (go y)
    where
      go : (z : Cell) → Same (loads p a z (set g 0 v) m) (loads p a z g m)
      go (At i) = writes_same a (get_or m i 0) (get_or m i 0) refl
      go Nowhere = refl

  stores_same : (w u : ℕ) (x y : Cell) → w ≡ u → x ≡ y → Same (stores p w x (set g 0 v) m) (stores p u y g m)
  stores_same w u x y q s = rw (q, s) (go y)
    where
      go : (z : Cell) → Same (stores p u z (set g 0 v) m) (stores p u z g m)
      go (At i) = refl
      go Nowhere = refl

  branches_same : (t s : Bool) (l : ℕ) → t ≡ s → Same (did (branches t n p l) (set g 0 v) m) (did (branches s n p l) g m)
  branches_same t s l q = rw q

  each_same : (a b c : ℕ) → Paired Same (rules n p (set g 0 v) m a b c) (rules n p g m a b c)
  each_same a b c =
      let x : read_of (set g 0 v) a ≡ read_of g a = reads a in
      let y : read_of (set g 0 v) b ≡ read_of g b = reads b in
      let z : read_of (set g 0 v) c ≡ read_of g c = reads c in (
        refl,
        (
          refl,
          (
            writes_same a (sum_of (read_of (set g 0 v) b) (read_of (set g 0 v) c)) (sum_of (read_of g b) (read_of g c)) (rw (y, z)),
            (
              writes_same a (sum_of b (read_of (set g 0 v) c)) (sum_of b (read_of g c)) (rw z),
              (
                writes_same a (difference_of (read_of (set g 0 v) b) (read_of (set g 0 v) c)) (difference_of (read_of g b) (read_of g c)) (rw (y, z)),
                (
                  writes_same a (product_of (read_of (set g 0 v) b) (read_of (set g 0 v) c)) (product_of (read_of g b) (read_of g c)) (rw (y, z)),
                  (
                    loads_same a (cell_at (set g 0 v) m b c) (cell_at g m b c) (same_cell b c),
                    (
                      stores_same (read_of (set g 0 v) c) (read_of g c) (cell_at (set g 0 v) m a b) (cell_at g m a b) z (same_cell a b),
                      (
                        refl,
                        (
                          branches_same (not (eqb (read_of (set g 0 v) a) (read_of (set g 0 v) b))) (not (eqb (read_of g a) (read_of g b))) c (rw (x, y)),
                          (
                            branches_same (eqb (read_of (set g 0 v) a) (read_of (set g 0 v) b)) (eqb (read_of g a) (read_of g b)) c (rw (x, y)),
                            (
                              writes_same a (flag_of (less_of (read_of (set g 0 v) b) (read_of (set g 0 v) c))) (flag_of (less_of (read_of g b) (read_of g c))) (rw (y, z)),
                              tt,
                            ),
                          ),
                        ),
                      ),
                    ),
                  ),
                ),
              ),
            ),
          ),
        ),
      )

  performed_same : (i : Instruction) → Same (perform n p (set g 0 v) m i) (perform n p g m i)
  unfolding perform
  performed_same (ins o a b c) = both_looked_up Same (rules n p (set g 0 v) m a b c) (rules n p g m a b c) (did (Fault 2) (set g 0 v) m) (did (Fault 2) g m) (each_same a b c) refl o

  pub try_same : (f : Fetched) → Same (tried n p (set g 0 v) m f) (tried n p g m f)
  unfolding tried
  try_same outside = refl
  try_same unknown = refl
  try_same (found i) = performed_same i

pub step_over_zero : (code : List ℕ) (p v : ℕ) (g m : List ℕ) → step_of code p (set g 0 v) m ≡ did_with v (step_of code p g m)
unfolding step_of
step_over_zero code p v g m = try_same (count_of code) p v g m (fetch code p)

-- nor does a run
module _ (code : List ℕ) where
  same_on : (v k p : ℕ) → ((q : ℕ) (g m : List ℕ) → run_of code k q (set g 0 v) m ≡ ran_with v (run_of code k q g m)) → (x : Next) (g m : List ℕ)
      → follow (run_of code k) k p x (set g 0 v) m ≡ ran_with v (follow (run_of code k) k p x g m)
  same_on v k p ih (Go q) g m = ih q g m
  same_on v k p ih Halt g m = refl
  same_on v k p ih (Fault f) g m = refl

  pub run_over_zero : (v k p : ℕ) (g m : List ℕ) → run_of code k p (set g 0 v) m ≡ ran_with v (run_of code k p g m)
  unfolding run_of
  run_over_zero v zero p g m = refl
  run_over_zero v (suc k) p g m =
      let d : Did = step_of code p g m in
      ap (λ (e : Did). follow (run_of code k) k p e.next e.registers e.memory) (step_over_zero code p v g m)
      ∙ same_on v k p (run_over_zero v k) d.next d.registers d.memory

  -- what a run over any place 0 leaves is, with the given place 0 put back, what the run leaves
  pub put_back : (v k p : ℕ) (g m : List ℕ) (r : Ran) → r ≡ run_of code k p (set g 0 v) m → ran_with (get_or g 0 0) r ≡ run_of code k p g m
  put_back v k p g m r e =
      let f : Ran = run_of code k p g m in
      ap (ran_with (get_or g 0 0)) (e ∙ run_over_zero v k p g m)
      ∙ ap (λ (l : List ℕ). ran f.ending f.left f.place l f.memory)
      (set-set f.registers 0 v (get_or g 0 0) ∙ ap (set f.registers 0) (sym (run_zero code k p g m)) ∙ set-get_or f.registers 0 0)
