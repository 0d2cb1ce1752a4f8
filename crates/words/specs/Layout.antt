-- Where the words of a plan lie. The names are those of the constants of the plan type.
use Rattle.std.specs.Prelude.{ℕ}
use Rattle.books.specs.Kind.{Kind}

-- the words of a row
abbrev pub row : ℕ
row = 16

-- a row for nobody and one for each task; behind them the row of the head
abbrev pub rows : ℕ
rows = 1025

abbrev pub head_base : ℕ
head_base = 16400

-- an order has an entry for each task
abbrev pub entries : ℕ
entries = 1024

abbrev pub activation_base : ℕ
activation_base = 16416

abbrev pub execution_base : ℕ
execution_base = 17440

-- the ready set: a bit for each place of the execution order, and a word that says which of its words are not 0
abbrev pub bits : ℕ
bits = 32

abbrev pub blocks : ℕ
blocks = 32

abbrev pub ready_base : ℕ
ready_base = 18464

abbrev pub filled_word : ℕ
filled_word = 18496

-- all words
abbrev pub words : ℕ
words = 18497

-- columns of a task: its place in the execution order, the children that have not ended, and its standing
abbrev pub place : ℕ
place = 2

abbrev pub unended : ℕ
unended = 3

abbrev pub standing : ℕ
standing = 4

-- the word of the head that says how far booking ahead has come
abbrev pub next : ℕ
next = 9

-- the offset of the cold room in a row
abbrev pub chilled : ℕ
chilled = 5

-- of the store of a kind
abbrev pub offset : Kind → ℕ
offset Kind.chilled = chilled

-- the kind of the store at an offset
abbrev pub kind_at : ℕ → Kind
kind_at store = Kind.chilled
