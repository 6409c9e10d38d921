-- What the programs write of a refusal.
use Rattle.std.specs.Prelude.{List, ℕ, codes}
use Rattle.refusal.specs.declared.Refusal.{Refusal}
use Rattle.refusal.specs.declared.Refusal.TheVariants as R

-- the words of each refusal in the table, without what is returned with it
abbrev pub refusal_words : Refusal → List ℕ
refusal_words R.NodeWords = codes "the table of nodes is empty, too long, or ends within a row"
refusal_words R.DeclarationWords = codes "the table of declarations is too long, or ends within a row"
refusal_words R.Pool = codes "the pool holds $0"
refusal_words (R.Declaration row) = codes "this row is no declaration"
refusal_words (R.Cells row) = codes "with this row the cells pass 65,536"
refusal_words (R.Word row) = codes "this row's kind, an unused word or a child's number is wrong"
refusal_words (R.Sort row) = codes "an expression stands for a command here, or a command for an expression"
refusal_words (R.Name row) = codes "this row names no declaration"
refusal_words (R.NamedKind row) = codes "what this row names is declared as another kind"
refusal_words (R.Uses row) = codes "this row is not used exactly once"
refusal_words (R.Registers need) = codes "too few registers"
refusal_words (R.Room instructions) = codes "the code buffer is too small"
refusal_words R.CodeWords = codes "the code is too long, or ends within an instruction"
refusal_words R.MemoryCells = codes "the memory is too large"
refusal_words (R.Instruction place) = codes "this is no instruction, or its label is outside the code"
refusal_words (R.TextRoom needed) = codes "the text is too short"
