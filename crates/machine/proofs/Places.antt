-- A step's next place is at most the number of instructions, and so is a run's place, or it is no further than where the run began.
-- Assumes nothing.
use Rattle.std.proofs.Common.{◌≡◌, ℕ, zero, suc, ◌+◌, ◌*◌, ◌<◌, ◌≤◌, Bool, true, false, cond, not, eqb, ltb, List, [], ◌∷◌, get_or, sym, refl, subst, arith, ltb-true}
use Rattle.word.specs.Word.{Cell, At, Nowhere}
use Rattle.instruction.specs.Instruction.{Instruction, ins, Fetched, outside, unknown, found, decode, fetch, count_of}
use Rattle.machine.specs.declared.Move.{Move}
use Rattle.machine.specs.Inside.{moved}
use Rattle.machine.specs.Step.{Next, Go, Halt, Fault, Did, did, loads, stores, jumps_to, branches, rules, perform, tried, step_of, cell_at, read_of}
use Rattle.machine.specs.Run.{follow, run_of}

abbrev pub Within : ℕ → Next → Type 0
Within n (Go q) = q ≤ n
Within n Halt = Unit {0}
Within n (Fault f) = Unit {0}

-- what holds of each entry and of the default holds of what is looked up
abbrev pub All : (Did → Type 0) → List Did → Type 0
All P [] = Unit {0}
All P (d ∷ ds) = P d × All P ds

pub looked_up : (P : Did → Type 0) (ds : List Did) (d : Did) → All P ds → P d → (o : ℕ) → P (get_or ds o d)
looked_up P [] d h k o = k
looked_up P (x ∷ ds) d h k zero = h.0
looked_up P (x ∷ ds) d h k (suc o) = looked_up P ds d h.1 k o

-- "A branch not taken does not look at its label."
pub not_taken : (n p l : ℕ) → branches false n p l ≡ Go (suc p)
not_taken n p l = refl

module _ (n p : ℕ) (inside : p < n) where
  wrote : (t : Bool) → Within n (cond t (Fault 3) (Go (suc p)))
  wrote true = tt
  wrote false = inside

  loaded : (a : ℕ) (x : Cell) (g m : List ℕ) → Within n (loads p a x g m).next
  loaded a (At i) g m = wrote (eqb a 0)
  loaded a Nowhere g m = go (eqb a 0)
    where
      go : (t : Bool) → Within n (cond t (Fault 3) (Fault 4))
      go true = tt
      go false = tt

  stored : (v : ℕ) (x : Cell) (g m : List ℕ) → Within n (stores p v x g m).next
  stored v (At i) g m = inside
  stored v Nowhere g m = tt

  jumped : (l : ℕ) → Within n (jumps_to n l)
  jumped l = go (ltb l n) refl
    where
      go : (t : Bool) → ltb l n ≡ t → Within n (cond t (Go l) (Fault 5))
      go true e = let h = ltb-true l n e in omega arith
      go false e = tt

  branched : (t : Bool) (l : ℕ) → Within n (branches t n p l)
  branched true l = jumped l
  branched false l = subst (Within n) (sym (not_taken n p l)) inside

  abbrev Fine : Did → Type 0
  Fine d = Within n d.next

  performed : (g m : List ℕ) (i : Instruction) → Within n (perform n p g m i).next
  unfolding perform
  performed g m (ins o a b c) = looked_up Fine (rules n p g m a b c) (did (Fault 2) g m) each tt o
    where
      each : All Fine (rules n p g m a b c)
      each = (
        tt,
        (
          inside,
          (
            wrote (eqb a 0),
            (
              wrote (eqb a 0),
              (
                wrote (eqb a 0),
                (
                  wrote (eqb a 0),
                  (
                    loaded a (cell_at g m b c) g m,
                    (
                      stored (read_of g c) (cell_at g m a b) g m,
                      (
                        jumped a,
                        (
                          branched (not (eqb (read_of g a) (read_of g b))) c,
                          (branched (eqb (read_of g a) (read_of g b)) c, (wrote (eqb a 0), tt)),
                        ),
                      ),
                    ),
                  ),
                ),
              ),
            ),
          ),
        ),
      )

step_within : (code : List ℕ) (p : ℕ) (g m : List ℕ) → Within (count_of code) (step_of code p g m).next
unfolding step_of tried fetch
step_within code p g m = go (ltb p (count_of code)) refl
  where
    at : (f : Fetched) → p < count_of code → Within (count_of code) (tried (count_of code) p g m f).next
    at outside h = tt
    at unknown h = tt
    at (found i) h = performed (count_of code) p h g m i

    go : (t : Bool) → ltb p (count_of code) ≡ t
        → Within (count_of code)
        (tried (count_of code) p g m (cond t (decode (get_or code (p * 4) 0) (get_or code (p * 4 + 1) 0) (get_or code (p * 4 + 2) 0) (get_or code (p * 4 + 3) 0)) outside)).next
    go true e = at (decode (get_or code (p * 4) 0) (get_or code (p * 4 + 1) 0) (get_or code (p * 4 + 2) 0) (get_or code (p * 4 + 3) 0)) (ltb-true _ _ e)
    go false e = tt

-- a jump leads into the code
pub step_to : (code : List ℕ) (p q : ℕ) (g m g' m' : List ℕ) (x : Move) → did (moved p x) g' m' ≡ step_of code p g m → x ≡ Move.To q → q ≤ count_of code
step_to code p q g m g' m' x h e =
    let w : Within (count_of code) (did (moved p x) g' m').next = subst (λ (d : Did). Within (count_of code) d.next) (sym h) (step_within code p g m) in
    rw e at w

-- a run's place is no further than where it began, or the number of instructions
module _ (code : List ℕ) (most : ℕ) (few : count_of code ≤ most) where
  followed : (k p : ℕ) → ((q : ℕ) (g m : List ℕ) → q ≤ most → (run_of code k q g m).place ≤ most) → p ≤ most → (x : Next) (g m : List ℕ)
      → Within (count_of code) x → (follow (run_of code k) k p x g m).place ≤ most
  followed k p ih h (Go q) g m w = ih q g m (omega arith)
  followed k p ih h Halt g m w = h
  followed k p ih h (Fault f) g m w = h

  pub run_place : (k p : ℕ) (g m : List ℕ) → p ≤ most → (run_of code k p g m).place ≤ most
  unfolding run_of
  run_place zero p g m h = h
  run_place (suc k) p g m h =
      let d : Did = step_of code p g m in
      followed k p (run_place k) h d.next d.registers d.memory (step_within code p g m)
