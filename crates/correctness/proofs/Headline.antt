-- The headline statements. Each name leads into the contract of `compile`, `step`, `run` or `list`, but for the last four, of the meaning alone.
-- Assumes nothing.
use mathlib.Core.Path.{◌≡◌, sym, ◌∙◌}
use mathlib.Core.Logic.{◌↔◌}
use mathlib.Core.Bool.{cond}
use mathlib.Core.List.{List}
use Prim.Native.Nat.{ℕ, ◌+◌, ◌*◌, ◌/◌, ◌%◌, ◌^◌, ◌<◌, ◌≤◌}
use native.Mathlib.Omega.{arith}
use lib.ListN.{length, get_or, take}
use borrow.Author.Tests.{le-leb}
use Rattle.word.specs.Word.{Words, difference_of}
use Rattle.decimal.specs.Bytes.{bytes}
use Rattle.refusal.specs.Refusal.{laid_over}
use Rattle.instruction.proofs.Forms.{words_taken}
use Rattle.listing.specs.Listing as T
use Rattle.machine.specs.declared.Ending.TheVariants.{Halted, Faulted}
use Rattle.machine.specs.declared.State.{State}
use Rattle.machine.specs.Entry.{ended, state_of, sizes_of, run_entry}
use Rattle.machine.specs.Single.{singly}
use Rattle.machine.proofs.Singly as S
use Rattle.rule.specs.Tree.{Exp, Com, while, Binding}
use Rattle.rule.specs.Table.{binding_of, program}
use Rattle.correctness.specs.Meaning.{done, fault, left_of, ◌>>=◌, ◌>>◌, return, spend, truth, eval, exec, rule_meaning}
use Rattle.compiler.specs.Pool.{registers_of}
use Rattle.compiler.specs.Answer.{accepted, refused, need, compiled, leaves}
use Rattle.correctness.specs.Demand3.{Free, AsMeant}
use Rattle.correctness.specs.Halting.{HaltAlike, RuleHaltsSometime, RunHaltsSometime, RuleHaltsLegally, RunHaltsLegally}
use Rattle.correctness.specs.Choice.{ChoosesCom, EarlierPass}
use Rattle.correctness.proofs.Meanings as L
use Rattle.correctness.proofs.Registers as P
use Rattle.correctness.proofs.Acceptance.{bit_said}
use Rattle.correctness.proofs.HostRegisters as K
use Rattle.correctness.proofs.Eleven as E
use Rattle.correctness.proofs.Meant.{faulted_as_meant, meant}
use Rattle.correctness.proofs.HaltsAlike as H
use Rattle.correctness.proofs.Minutes as M
use Rattle.correctness.proofs.Minutes.{names, rule}
use Rattle.correctness.proofs.Listed as I
use Rattle.correctness.proofs.ListedExample as X
use Rattle.correctness.proofs.ListedExample.{one_name, two}

-- For all tables of words, pools and code buffers that `compile` accepts
module _ (ds ns : List ℕ) (pool : ℕ) (code : List ℕ) (n c k : ℕ) (wd : Words ds) (wn : Words ns)
    (said : compiled ds ns pool (length code) ≡ accepted n c k) where
  -- the code: the first 4 n words of the buffer that `compile` leaves
  abbrev pub emitted : List ℕ
  emitted = take (n * 4) (leaves ds ns pool code)

  -- and for all register contents and all memories that a run accepts:
  module _ (R m : List ℕ) (registers : length R ≡ 64) (cells : length m ≤ 65536) where
    -- Demand 3. Under every budget the code, run from place 0, ends as the rule's own meaning does: the ending, the steps, every cell of
    -- memory; and each register outside the pool holds what it held
    pub demand_3 : (budget : ℕ) → AsMeant (registers_of pool) R budget (rule_meaning (binding_of ds) (program ns) m budget) (run_entry emitted m (state_of 0 R) budget)
    demand_3 budget = meant ds ns pool code n c k wd wn said R m budget registers cells

    -- So a run of the code from place 0 has no fault but 4
    pub code_faults_with_4 : (budget f steps : ℕ) → (run_entry emitted m (state_of 0 R) budget).said ≡ ended (Faulted f) steps → f ≡ 4
    code_faults_with_4 budget f steps e = faulted_as_meant (binding_of ds) (program ns) m budget f steps (sym (demand_3 budget).said ∙ e)

    -- So the code halts under some budget exactly when the rule does
    pub halts_exactly : RuleHaltsSometime (binding_of ds) (program ns) m ↔ RunHaltsSometime emitted R m
    halts_exactly =
        let a = H.halts_alike ds ns pool code n c k wd wn said R m registers cells in (
          λ h. (h.0, h.1, h.2, a.run_if_rule h.0 h.1 h.2 h.3),
          λ h. (h.0, h.1, h.2, a.rule_if_run h.0 h.1 h.2 h.3),
        )

    -- and under some legal budget, at most 4,294,967,295, exactly when the rule does
    pub halts_exactly_legal : RuleHaltsLegally (binding_of ds) (program ns) m ↔ RunHaltsLegally emitted R m
    halts_exactly_legal =
        let a = H.halts_alike ds ns pool code n c k wd wn said R m registers cells in (
          λ h. (h.0, h.1, h.2, h.3, a.run_if_rule h.0 h.2 h.3 h.4),
          λ h. (h.0, h.1, h.2, h.3, a.rule_if_run h.0 h.2 h.3 h.4),
        )

    -- each under the same budget as the other, after as many steps, with the same memory, and then under every larger budget
    pub halts_alike : HaltAlike (binding_of ds) (program ns) emitted R m
    halts_alike = H.halts_alike ds ns pool code n c k wd wn said R m registers cells

  -- The host's registers. Whatever the place, the registers, the memory and the budget that a run of the code starts from, each register
  -- outside the pool holds at its end what it held
  pub host_registers_kept : (p : ℕ) (R m : List ℕ) (budget j : ℕ) → Free j (registers_of pool)
      → get_or (run_entry emitted m (state_of p R) budget).state.registers j 0 ≡ get_or R j 0
  host_registers_kept p R m = K.host_registers_kept ds ns pool code n c k said m (state_of p R)

  -- that is each of $0 to $63 whose bit is not set
  pub clear_bit_kept : (p : ℕ) (R m : List ℕ) (budget j : ℕ) → j < 64 → (pool / 2 ^ j) % 2 ≡ 0
      → get_or (run_entry emitted m (state_of p R) budget).state.registers j 0 ≡ get_or R j 0
  clear_bit_kept p R m budget j h e = host_registers_kept p R m budget j ((P.outside_exactly pool j h).1 e)

  -- and $0's place, whose bit no accepted pool sets
  pub zero_place_kept : (p : ℕ) (R m : List ℕ) (budget : ℕ)
      → get_or (run_entry emitted m (state_of p R) budget).state.registers 0 0 ≡ get_or R 0 0
  zero_place_kept p R m budget = clear_bit_kept p R m budget 0 (omega arith) (omega (arith, bit_said ds ns pool code n c k said))

  -- The change log. Whatever the text that is lent, the code is listed in it where there is room, and the bytes beyond the listing stay
  pub emitted_listed : (text : List ℕ) → length (T.listing emitted) ≤ length text
      → (T.answered emitted (length text) ≡ T.listed (length (T.listing emitted))) × (T.leaves emitted text ≡ laid_over (T.listing emitted) text)
  emitted_listed = I.emitted_listed ds ns pool code n c k said

  -- and where there is none it is refused with 22 and the bytes needed, and the text stays: so never with 13 or 21
  pub emitted_needs : (text : List ℕ) → length text < length (T.listing emitted)
      → (T.answered emitted (length text) ≡ T.refused 22 (length (T.listing emitted))) × (T.leaves emitted text ≡ text)
  emitted_needs = I.emitted_needs ds ns pool code n c k said

-- The offence of the minutes: x := a - (b - c), however it is compiled, leaves a - (b - c) in x, wrapped, for all a, b, c held in variables
pub offset_kept : (pool : ℕ) (code : List ℕ) (n c k : ℕ) → compiled names rule pool (length code) ≡ accepted n c k → (R m : List ℕ) → length R ≡ 64
    → 4 ≤ length m → length m ≤ 65536 → (budget : ℕ) → 11 ≤ budget
    → ((run_entry (take (n * 4) (leaves names rule pool code)) m (state_of 0 R) budget).said ≡ ended Halted 11)
    × (get_or (run_entry (take (n * 4) (leaves names rule pool code)) m (state_of 0 R) budget).memory 0 0
    ≡ difference_of (get_or m 1 0) (difference_of (get_or m 2 0) (get_or m 3 0)))
offset_kept pool code n c k said R m r low high budget b =
    let h = M.minutes pool code n c k said R m r low high budget b in
    (h.0, h.2)

-- The example of a listing: x := 2, compiled with the pool $1 and $2 into any buffer of 16 words or more, is these four lines
pub two_listed : (code : List ℕ) → 16 ≤ length code
    → (compiled one_name two 6 (length code) ≡ accepted 4 1 2)
    × (T.listing (take (4 * 4) (leaves one_name two 6 code)) ≡ bytes "addi $1 2 $0\naddi $2 0 $0\nstore $2[$0] $1\nhalt\n")
two_listed code h = (X.two_accepted (length code) h, X.two_listed code h)

-- Refusal 11, for all tables, pools and buffers: it is given exactly when every check before it passes and no choice of registers by the
-- scope's rules exists, where a fresh register may be any one left; and it carries the need
pub eleven_exactly : (ds ns : List ℕ) (pool words : ℕ)
    → compiled ds ns pool words ≡ refused 11 (need ds ns)
    ↔ EarlierPass ds ns pool × (ChoosesCom (binding_of ds) (program ns) (registers_of pool) → ⊥)
eleven_exactly = E.eleven_exactly

pub eleven_says_need : (ds ns : List ℕ) (pool words k : ℕ) → compiled ds ns pool words ≡ refused 11 k → k ≡ need ds ns
eleven_says_need = E.eleven_says_need

-- The pool, for all numbers: a register $0 to $63 is outside it exactly when its bit is not set
pub outside_exactly : (pool k : ℕ) → k < 64 → Free k (registers_of pool) ↔ (pool / 2 ^ k) % 2 ≡ 0
outside_exactly = P.outside_exactly

-- Demand 2's single steps, for all states and budgets, and for all codes and memories that are not refused by their sizes: a run is that
-- many single steps, one after the other, fewer only if one halts or faults
pub run_is_single_steps : (code m : List ℕ) (s : State) (budget : ℕ) → length code % 4 ≡ 0 → length code ≤ 262144 → length m ≤ 65536
    → run_entry code m s budget ≡ singly code budget s m
unfolding sizes_of
run_is_single_steps code m s budget w h l =
    S.run_is_single_steps code m s budget (rw (words_taken (length code) w h, le-leb (length m) 65536 l))

-- The meaning, from the meaning alone: for all names, rules, memories and budgets

-- While, turn by turn: the test, 1 step, then, if it is not 0, the body, 1 step and the while again, else nothing
pub while_again : (ρ : ℕ → Binding) (e : Exp) (c : Com) (m : List ℕ) (b : ℕ)
    → exec ρ (while e c) m b
    ≡ (do
      v ← eval ρ e
      spend 1
      cond (truth v) (exec ρ c >> spend 1 >> exec ρ (while e c)) (return tt)) m b
while_again = L.while_again

-- The budget left is never above the budget
pub never_gains : (ρ : ℕ → Binding) (c : Com) (m : List ℕ) (b : ℕ) → left_of (rule_meaning ρ c m b) ≤ b
never_gains = L.never_gains

-- What halts or faults under a budget does so under every larger one, with the same fault, steps and memory: d more budget leaves d more
pub ends_alike : (ρ : ℕ → Binding) (c : Com) (m m' : List ℕ) (b l d : ℕ)
    → (rule_meaning ρ c m b ≡ done tt m' l → rule_meaning ρ c m (b + d) ≡ done tt m' (l + d))
    × ((n : ℕ) → rule_meaning ρ c m b ≡ fault n m' l → rule_meaning ρ c m (b + d) ≡ fault n m' (l + d))
ends_alike = L.ends_alike

-- "A rule faults when that address, or a variable's, is outside memory": it has no other fault
pub faults_with_4 : (ρ : ℕ → Binding) (c : Com) (m m' : List ℕ) (b l n : ℕ) → rule_meaning ρ c m b ≡ fault n m' l → n ≡ 4
faults_with_4 = L.faults_with_4
