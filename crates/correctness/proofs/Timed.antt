-- A computation never gains budget, ends alike under every larger one, and faults with 4 alone: so it is for the meaning's steps, and for one after another.
-- Assumes nothing.
use mathlib.Core.Path.{◌≡◌, refl}
use mathlib.Core.Bool.{Bool, true, false, cond}
use mathlib.Core.List.{List}
use Prim.Native.Nat.{ℕ, zero, suc, ◌+◌, ◌≤◌}
use native.Mathlib.Nat.{le_refl, le_trans, suc-add}
use native.Mathlib.Omega.{arith}
use lib.IntN.{ℤ}
use lib.ListN.{length}
use Rattle.word.specs.Word.{cell_of, Cell, At, Nowhere}
use Rattle.correctness.specs.Meaning.{Outcome, done, fault, out, left_of, M, bind, ◌>>=◌, return, spend, read_cell, read, store_cell, store}

-- y ends as x does, with d more left; of an x that is unfinished it says nothing
abbrev pub Larger : {A : Type 0} → ℕ → Outcome A → Outcome A → Type 0
Larger d (done a m l) y = y ≡ done a m (l + d)
Larger d (fault n m l) y = y ≡ fault n m (l + d)
Larger d (out m) y = Unit {0}

-- a fault is 4
abbrev pub Four : {A : Type 0} → Outcome A → Type 0
Four (done a m l) = Unit {0}
Four (fault n m l) = n ≡ 4
Four (out m) = Unit {0}

-- a computation that never gains budget, that ends alike under every larger one, and that faults with 4 alone
pub record Timed {A : Type 0} (o : M A) : Type 0 where
  pub within : (m : List ℕ) (b : ℕ) → left_of (o m b) ≤ b
  pub lasts : (m : List ℕ) (b d : ℕ) → Larger d (o m b) (o m (b + d))
  pub four : (m : List ℕ) (b : ℕ) → Four (o m b)

pub timed_return : {A : Type 0} (a : A) → Timed (return a)
timed_return a = record { within = λ m b. le_refl b; lasts = λ m b d. refl; four = λ m b. tt }

bind_within : {A B : Type 0} (b : ℕ) (x : Outcome A) (k : A → M B) → left_of x ≤ b → ((a : A) → Timed (k a)) → left_of (bind x k) ≤ b
bind_within b (done a m l) k h t = le_trans ((t a).within m l) h
bind_within b (fault n m l) k h t = h
bind_within b (out m) k h t = h

bind_lasts : {A B : Type 0} (d : ℕ) (x y : Outcome A) (k : A → M B) → Larger d x y → ((a : A) → Timed (k a)) → Larger d (bind x k) (bind y k)
bind_lasts d (done a m l) y k e t = rw e ((t a).lasts m l d)
bind_lasts d (fault n m l) y k e t = rw e
bind_lasts d (out m) y k e t = tt

bind_four : {A B : Type 0} (x : Outcome A) (k : A → M B) → Four x → ((a : A) → Timed (k a)) → Four (bind x k)
bind_four (done a m l) k h t = (t a).four m l
bind_four (fault n m l) k h t = h
bind_four (out m) k h t = tt

pub timed_bind : {A B : Type 0} {o : M A} {k : A → M B} → Timed o → ((a : A) → Timed (k a)) → Timed (o >>= k)
timed_bind {o} {k} t u =
    record {
      within = λ m b. bind_within b (o m b) k (t.within m b) u;
      lasts = λ m b d. bind_lasts d (o m b) (o m (b + d)) k (t.lasts m b d) u;
      four = λ m b. bind_four (o m b) k (t.four m b) u;
    }

spend_within : (k : ℕ) (m : List ℕ) (b : ℕ) → left_of (spend k m b) ≤ b
spend_within zero m b = le_refl b
spend_within (suc k) m zero = le_refl 0
spend_within (suc k) m (suc b) = let h = spend_within k m b in omega arith

spend_lasts : (k : ℕ) (m : List ℕ) (b d : ℕ) → Larger d (spend k m b) (spend k m (b + d))
spend_lasts zero m b d = refl
spend_lasts (suc k) m zero d = tt
spend_lasts (suc k) m (suc b) d = rw suc-add (spend_lasts k m b d)

spend_four : (k : ℕ) (m : List ℕ) (b : ℕ) → Four (spend k m b)
spend_four zero m b = tt
spend_four (suc k) m zero = tt
spend_four (suc k) m (suc b) = spend_four k m b

pub timed_spend : (k : ℕ) → Timed (spend k)
timed_spend k = record { within = spend_within k; lasts = spend_lasts k; four = spend_four k }

pub timed_cond : {A : Type 0} {x y : M A} (t : Bool) → Timed x → Timed y → Timed (cond t x y)
timed_cond true x y = x
timed_cond false x y = y

module _ (m : List ℕ) (b : ℕ) where
  read_cell_within : (x : Cell) → left_of (read_cell m b x) ≤ suc b
  read_cell_within (At i) = omega arith
  read_cell_within Nowhere = le_refl (suc b)

  read_cell_lasts : (d : ℕ) (x : Cell) → Larger d (read_cell m b x) (read_cell m (b + d) x)
  read_cell_lasts d (At i) = refl
  read_cell_lasts d Nowhere = rw suc-add

  read_cell_four : (x : Cell) → Four (read_cell m b x)
  read_cell_four (At i) = tt
  read_cell_four Nowhere = refl

  store_cell_within : (v : ℕ) (x : Cell) → left_of (store_cell v m b x) ≤ suc b
  store_cell_within v (At i) = omega arith
  store_cell_within v Nowhere = le_refl (suc b)

  store_cell_lasts : (v d : ℕ) (x : Cell) → Larger d (store_cell v m b x) (store_cell v m (b + d) x)
  store_cell_lasts v d (At i) = refl
  store_cell_lasts v d Nowhere = rw suc-add

  store_cell_four : (v : ℕ) (x : Cell) → Four (store_cell v m b x)
  store_cell_four v (At i) = tt
  store_cell_four v Nowhere = refl

module _ (z : ℤ) where
  read_within : (m : List ℕ) (b : ℕ) → left_of (read z m b) ≤ b
  read_within m zero = le_refl 0
  read_within m (suc b) = read_cell_within m b (cell_of z (length m))

  read_lasts : (m : List ℕ) (b d : ℕ) → Larger d (read z m b) (read z m (b + d))
  read_lasts m zero d = tt
  read_lasts m (suc b) d = rw suc-add (read_cell_lasts m b d (cell_of z (length m)))

  read_four : (m : List ℕ) (b : ℕ) → Four (read z m b)
  read_four m zero = tt
  read_four m (suc b) = read_cell_four m b (cell_of z (length m))

  pub timed_read : Timed (read z)
  timed_read = record { within = read_within; lasts = read_lasts; four = read_four }

  store_within : (v : ℕ) (m : List ℕ) (b : ℕ) → left_of (store z v m b) ≤ b
  store_within v m zero = le_refl 0
  store_within v m (suc b) = store_cell_within m b v (cell_of z (length m))

  store_lasts : (v : ℕ) (m : List ℕ) (b d : ℕ) → Larger d (store z v m b) (store z v m (b + d))
  store_lasts v m zero d = tt
  store_lasts v m (suc b) d = rw suc-add (store_cell_lasts m b v d (cell_of z (length m)))

  store_four : (v : ℕ) (m : List ℕ) (b : ℕ) → Four (store z v m b)
  store_four v m zero = tt
  store_four v m (suc b) = store_cell_four m b v (cell_of z (length m))

  pub timed_store : (v : ℕ) → Timed (store z v)
  timed_store v = record { within = store_within v; lasts = store_lasts v; four = store_four v }
