-- Refusals 1, 2 and 4 to 10, in their order. 01-scope.md, "Numbered refusals, in order".
use Rattle.std.specs.Prelude.{Bool, true, false, cond, not, ◌&&◌, List, ℕ, zero, suc, ◌+◌, ◌-◌, ◌*◌, ◌%◌, min, eqb, ltb, leb, length, replicate, set, ⊤, Result, Ok, Err}
use Rattle.rule.specs.declared.fault.Fault.{Fault}
use Rattle.rule.specs.declared.fault.Fault.TheVariants as F
use Rattle.refusal.specs.Refusal.{Verdict, Passes, Refuses, ◌and_then◌, first_refused}
use Rattle.rule.specs.Kind.{Class, none, unused, number, scalar, variable_name, array_name, expression, command, Words, words_of, first, second, third, is_expression, is_command}
use Rattle.rule.specs.Table.{row_limit, declaration_limit, cell_limit, declaration_rows, sort, given, first_cell, node_rows, word, kind_at}

-- 1: "node words not a multiple of 4, no rows, or above 1,024 rows"
unfoldable pub node_words : ℕ → Verdict
node_words n = cond (eqb (n % 4) 0 && (ltb 0 n && leb n (row_limit * 4))) Passes (Refuses 1 0)

-- 2: "declaration words odd, or above 256 rows"
unfoldable pub declaration_words : ℕ → Verdict
declaration_words n = cond (eqb (n % 2) 0 && leb n (declaration_limit * 2)) Passes (Refuses 2 0)

-- "(1, v) constant v; (2, 0) variable, one cell; (3, s) array of s cells, s from 1 to 65,536"
abbrev pub is_declaration : ℕ → ℕ → Bool
is_declaration k v = cond (eqb k 1) true (cond (eqb k 2) (eqb v 0) (cond (eqb k 3) (ltb 0 v && leb v cell_limit) false))

-- 4: "a declaration's kind or value is not one of the above"; 5: "cells pass 65,536 with this row". 10 stands for a row in order
abbrev pub declaration_no : List ℕ → ℕ → ℕ
declaration_no ds x = cond (is_declaration (sort ds x) (given ds x)) (cond (leb (first_cell ds (suc x)) cell_limit) 10 5) 4

-- whether a number is a refusal's
abbrev pub refused : ℕ → Bool
refused k = ltb k 10

-- 4 and 5
unfoldable pub declarations : List ℕ → Verdict
declarations ds = first_refused (declaration_no ds) (λ x. refused (declaration_no ds x)) (declaration_rows ds)

-- 6: "unknown node kind, unused word not 0, or child not in 0..row-1"; 7: "a child ... of the wrong sort";
-- 8: "name is no declaration row"; 9: "name of the wrong kind"
abbrev pub child_no : ℕ → Bool → ℕ → ℕ
child_no i right w = cond (ltb w i) (cond right 10 7) 6

abbrev pub name_no : List ℕ → Bool → ℕ → ℕ
name_no ds right w = cond (ltb w (declaration_rows ds)) (cond right 10 9) 8

-- a number from low to high
abbrev pub among : ℕ → ℕ → ℕ → Bool
among low high k = leb low k && leb k high

-- 6 to 9 of one word by its class, and of the three words of a row
abbrev pub word_no : List ℕ → List ℕ → ℕ → Class → ℕ → ℕ
word_no ds ns i none w = 6
word_no ds ns i unused w = cond (eqb w 0) 10 6
word_no ds ns i number w = 10
word_no ds ns i scalar w = name_no ds (among 1 2 (sort ds w)) w
word_no ds ns i variable_name w = name_no ds (among 2 2 (sort ds w)) w
word_no ds ns i array_name w = name_no ds (among 3 3 (sort ds w)) w
word_no ds ns i expression w = child_no i (is_expression (kind_at ns w)) w
word_no ds ns i command w = child_no i (is_command (kind_at ns w)) w

abbrev pub words_no : List ℕ → List ℕ → ℕ → Words → ℕ
words_no ds ns i k =
    min (word_no ds ns i (first k) (word ns i 1)) (min (word_no ds ns i (second k) (word ns i 2)) (word_no ds ns i (third k) (word ns i 3)))

-- 7: "or the last row, of the wrong sort"
abbrev pub last_no : List ℕ → ℕ → ℕ
last_no ns i = cond (eqb (suc i) (node_rows ns)) (cond (is_command (kind_at ns i)) 10 7) 10

-- "within a row the lower number wins"
unfoldable pub row_no : List ℕ → List ℕ → ℕ → ℕ
row_no ds ns i = min (words_no ds ns i (words_of (kind_at ns i))) (last_no ns i)

-- 6 to 9 of all rows
unfoldable pub rows : List ℕ → List ℕ → Verdict
rows ds ns = first_refused (row_no ds ns) (λ i. refused (row_no ds ns i)) (node_rows ns)

-- the code's faults by their numbers, 10 where there is none, and the verdict on row i whose number is k
abbrev pub fault_number : Fault → ℕ
fault_number F.Word = 6
fault_number F.Sort = 7
fault_number F.Name = 8
fault_number F.NamedKind = 9

abbrev pub no_of : Result ⊤ Fault → ℕ
no_of (Ok x) = 10
no_of (Err f) = fault_number f

abbrev pub verdict_at : ℕ → ℕ → Verdict
verdict_at k i = cond (refused k) (Refuses k i) Passes

-- "every other row is the child of exactly one parent, once": how often the rows below n name row j
abbrev pub is_child : Class → Bool
is_child none = false
is_child unused = false
is_child number = false
is_child scalar = false
is_child variable_name = false
is_child array_name = false
is_child expression = true
is_child command = true

abbrev pub names : ℕ → Class → ℕ → ℕ
names j c w = cond (is_child c) (cond (eqb w j) 1 0) 0

abbrev pub names_in : List ℕ → ℕ → ℕ → Words → ℕ
names_in ns i j k = names j (first k) (word ns i 1) + (names j (second k) (word ns i 2) + names j (third k) (word ns i 3))

unfoldable pub uses : List ℕ → ℕ → ℕ → ℕ
uses ns zero j = 0
uses ns (suc i) j = uses ns i j + names_in ns i j (words_of (kind_at ns i))

-- 10: "a row but the last not used exactly once", with the lowest such row
abbrev pub misused : List ℕ → ℕ → Bool
misused ns j = not (eqb (uses ns (node_rows ns) j) 1)

unfoldable pub used_once : List ℕ → Verdict
used_once ns = first_refused (λ j. 10) (misused ns) (node_rows ns - 1)

-- "Node rows likewise for 6 to 9 ... Then 10": the node table, after 1
unfoldable pub nodes : List ℕ → List ℕ → Verdict
nodes ds ns = node_words (length ns) and_then rows ds ns and_then used_once ns

-- the declarations, with 2 before 4 and 5
unfoldable pub declared : List ℕ → Verdict
declared ds = declaration_words (length ds) and_then declarations ds

-- the first cell of each declaration, 0 beyond
unfoldable pub bases : List ℕ → ℕ → List ℕ
bases ds zero = replicate declaration_limit 0
bases ds (suc x) = set (bases ds x) x (first_cell ds x)

-- both tables: 1, 2, 4 to 10
unfoldable pub tables : List ℕ → List ℕ → Verdict
tables ds ns =
    node_words (length ns) and_then declaration_words (length ds) and_then declarations ds and_then rows ds ns and_then used_once ns
