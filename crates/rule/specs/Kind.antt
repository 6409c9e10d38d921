-- The kinds of node rows by their numbers, and what the three words of each are. 01-scope.md, "Tables handed in".
use Rattle.std.specs.Prelude.{◌≡◌, ◌≢◌, Bool, true, false, List, [], ◌∷◌, ℕ, get_or, Result, Ok, Err, IfErr, MatchResult}
use Rattle.rule.specs.declared.kind.Operator.{Operator}
use Rattle.rule.specs.declared.kind.Operator.TheVariants as O
use Rattle.rule.specs.declared.kind.Expression.{Expression}
use Rattle.rule.specs.declared.kind.Expression.TheVariants as E
use Rattle.rule.specs.declared.kind.Command.{Command}
use Rattle.rule.specs.declared.kind.Command.TheVariants as C
use Rattle.rule.specs.declared.kind.Kind.{Kind as RowKind}
use Rattle.rule.specs.declared.kind.Kind.TheVariants as K
use Rattle.rule.specs.declared.kind.UnknownKind.{UnknownKind}
use Rattle.rule.specs.declared.kind.Sort.{Sort}
use Rattle.rule.specs.declared.kind.Sort.TheVariants as S
use Rattle.rule.specs.declared.kind.UnknownSort.{UnknownSort}
use Rattle.rule.specs.declared.row.Class.{Class as WordClass}
use Rattle.rule.specs.declared.row.Class.TheVariants as W
use Rattle.rule.specs.Tree.{Op, plus, minus, times, less, equal, both, either}

-- a node row's kind; a number that has none is unknown
pub data Kind : Type 0 where
  unknown a_value an_ident an_element a_not a_skip an_assign an_assign_at a_sequence an_if a_while : Kind
  a_binary : Op → Kind

-- the kinds in the order of their numbers, from 0 on
abbrev pub kinds : List Kind
kinds =
    unknown
    ∷ a_value
    ∷ an_ident
    ∷ an_element
    ∷ a_binary plus
    ∷ a_binary minus
    ∷ a_binary times
    ∷ a_binary less
    ∷ a_binary equal
    ∷ a_binary both
    ∷ a_binary either
    ∷ a_not
    ∷ unknown
    ∷ unknown
    ∷ unknown
    ∷ unknown
    ∷ a_skip
    ∷ an_assign
    ∷ an_assign_at
    ∷ a_sequence
    ∷ an_if
    ∷ a_while
    ∷ []

-- the kind of a number
abbrev pub kind_of : ℕ → Kind
kind_of k = get_or kinds k unknown

-- what one of a row's three words is
pub data Class : Type 0 where
  none unused number scalar variable_name array_name expression command : Class

-- a row's three words
pub data Words : Type 0 where
  three : Class → Class → Class → Words

-- "kind: words after it"; "Kind 2 names a constant or variable, 17 a variable, 3 and 18 an array"; "Unused words are 0"
abbrev pub words_of : Kind → Words
words_of unknown = three none none none
words_of a_value = three number unused unused
words_of an_ident = three scalar unused unused
words_of an_element = three array_name expression unused
words_of (a_binary op) = three expression expression unused
words_of a_not = three expression unused unused
words_of a_skip = three unused unused unused
words_of an_assign = three variable_name expression unused
words_of an_assign_at = three array_name expression expression
words_of a_sequence = three command command unused
words_of an_if = three expression command command
words_of a_while = three expression command unused

-- each of the three
abbrev pub first : Words → Class
first (three x y z) = x

abbrev pub second : Words → Class
second (three x y z) = y

abbrev pub third : Words → Class
third (three x y z) = z

-- "Kinds 1 to 11 are expressions, 16 to 21 commands"
abbrev pub is_expression : Kind → Bool
is_expression unknown = false
is_expression a_value = true
is_expression an_ident = true
is_expression an_element = true
is_expression (a_binary op) = true
is_expression a_not = true
is_expression a_skip = false
is_expression an_assign = false
is_expression an_assign_at = false
is_expression a_sequence = false
is_expression an_if = false
is_expression a_while = false

abbrev pub is_command : Kind → Bool
is_command unknown = false
is_command a_value = false
is_command an_ident = false
is_command an_element = false
is_command (a_binary op) = false
is_command a_not = false
is_command a_skip = true
is_command an_assign = true
is_command an_assign_at = true
is_command a_sequence = true
is_command an_if = true
is_command a_while = true

-- What the code has for a kind: its enums in these words, and their numbers

-- an operator
abbrev pub op_said : Operator → Op
op_said O.Plus = plus
op_said O.Minus = minus
op_said O.Times = times
op_said O.Less = less
op_said O.Equal = equal
op_said O.And = both
op_said O.Or = either

-- an expression's kind, and a command's
abbrev pub expression_said : Expression → Kind
expression_said E.Value = a_value
expression_said E.Identifier = an_ident
expression_said E.Element = an_element
expression_said (E.Binary op) = a_binary (op_said op)
expression_said E.Not = a_not

abbrev pub command_said : Command → Kind
command_said C.Skip = a_skip
command_said C.Assign = an_assign
command_said C.AssignElement = an_assign_at
command_said C.Sequence = a_sequence
command_said C.If = an_if
command_said C.While = a_while

-- either
abbrev pub row_said : RowKind → Kind
row_said (K.Expression e) = expression_said e
row_said (K.Command c) = command_said c

-- what a number was read as: a number that is no kind is unknown
abbrev pub kind_said : Result RowKind UnknownKind → Kind
kind_said (Ok k) = row_said k
kind_said (Err e) = unknown

-- a number is read as the kind that the list has at its place
abbrev pub Decodes : ℕ → Result RowKind UnknownKind → Type 0
Decodes n r = (kind_said r ≡ kind_of n) × IfErr r (λ e. e.0 ≡ n)

-- "Kinds 1 to 11 are expressions", in the order of the list
abbrev pub operator_number : Operator → ℕ
operator_number O.Plus = 4
operator_number O.Minus = 5
operator_number O.Times = 6
operator_number O.Less = 7
operator_number O.Equal = 8
operator_number O.And = 9
operator_number O.Or = 10

abbrev pub expression_number : Expression → ℕ
expression_number E.Value = 1
expression_number E.Identifier = 2
expression_number E.Element = 3
expression_number (E.Binary op) = operator_number op
expression_number E.Not = 11

-- "16 to 21 commands"
abbrev pub command_number : Command → ℕ
command_number C.Skip = 16
command_number C.Assign = 17
command_number C.AssignElement = 18
command_number C.Sequence = 19
command_number C.If = 20
command_number C.While = 21

-- either
abbrev pub kind_number : RowKind → ℕ
kind_number (K.Expression e) = expression_number e
kind_number (K.Command c) = command_number c

-- "(1, v) constant v; (2, 0) variable, one cell; (3, s) array of s cells"
abbrev pub sort_number : Sort → ℕ
sort_number S.Constant = 1
sort_number S.Variable = 2
sort_number S.Array = 3

-- a number is read as the sort that has it, and refused where none has
abbrev pub DecodesSort : ℕ → Result Sort UnknownSort → Type 0
DecodesSort n r = MatchResult r (λ s. sort_number s ≡ n) (λ e. (e.0 ≡ n) × (n ≢ 1) × (n ≢ 2) × (n ≢ 3))

-- what the code takes a word for; a row that has no kind has no words
abbrev pub class_said : WordClass → Class
class_said W.Unused = unused
class_said W.Number = number
class_said W.Scalar = scalar
class_said W.VariableName = variable_name
class_said W.ArrayName = array_name
class_said W.ExpressionRow = expression
class_said W.CommandRow = command
