-- What form a line has, by its words.
use Rattle.std.specs.Prelude.{ℕ, ◌+◌, ◌*◌, ◌-◌, Bool, false, ◌&&◌, ◌||◌, ◌==◌, if◌then◌else◌, List, [], ◌∷◌, length}
use Rattle.std.specs.Prelude.{nat_le, Option, Some, None, unwrap_or, codes, ⊤}
use Rattle.std.specs.List.{list_all}
use Rattle.std.specs.Str.{bytes_eq}
use Rattle.std.specs.Char.{is_ascii_digit, is_ascii_lowercase}
use Rattle.handoff_data.specs.Line.{IsLine}
use Rattle.task_script.specs.Lines.{without_returns, skip_blanks, has_bytes, words}
use Rattle.task_script.specs.declared.form.Kind as kind
use Rattle.task_script.specs.declared.form.Form as form
use Rattle.task_script.specs.declared.form.Inputs as from

-- ---- numbers and names

-- the number whose digits are those of a number before, and these
abbrev pub decimal : ℕ → List ℕ → ℕ
decimal before [] = before
decimal before (digit ∷ digits) = decimal (before * 10 + (digit - 48)) digits

-- 1 to 10 decimal digits
abbrev pub is_number : List ℕ → Bool
is_number word = has_bytes word && nat_le (length word) 10 && list_all is_ascii_digit word

-- the number that a word is, if it is one
abbrev pub number_in : List ℕ → Option ℕ
number_in word = if is_number word then Some (decimal 0 word) else None

abbrev pub value_of : List ℕ → ℕ
value_of word = unwrap_or (number_in word) 0

-- whether a word is a number from low to high
abbrev pub is_within : ℕ → ℕ → List ℕ → Bool
is_within low high word = is_number word && nat_le low (value_of word) && nat_le (value_of word) high

-- a letter `a` to `z` and at most 15 letters `a` to `z` or digits
abbrev pub is_name_byte : ℕ → Bool
is_name_byte byte = is_ascii_lowercase byte || is_ascii_digit byte

abbrev pub is_name : List ℕ → Bool
is_name [] = false
is_name (byte ∷ bytes) = is_ascii_lowercase byte && nat_le (length bytes) 15 && list_all is_name_byte bytes

-- ---- forms

-- the kinds of task, with their words: numbers, prefixes, and the names of the tasks that they read
pub data Kind : Type 0 where
  lines_kind : Kind
  count_kind : List ℕ → Kind
  upper_kind : List ℕ → Kind
  number_kind : List ℕ → Kind
  keep_kind : List ℕ → List ℕ → Kind
  drop_kind : List ℕ → List ℕ → Kind
  tally_kind : List ℕ → Kind
  pin_kind : List ℕ → List ℕ → Kind
  custom_kind : List ℕ → List ℕ → Kind
  cat_kind : List ℕ → List ℕ → Kind
  weave_kind : List ℕ → List ℕ → Kind

-- the names of the tasks that a task of this kind reads, by side
abbrev pub reads : Kind → List (List ℕ)
reads lines_kind = []
reads (count_kind number) = []
reads (upper_kind source) = source ∷ []
reads (number_kind source) = source ∷ []
reads (keep_kind prefix source) = source ∷ []
reads (drop_kind prefix source) = source ∷ []
reads (tally_kind source) = source ∷ []
reads (pin_kind number source) = source ∷ []
reads (custom_kind number source) = source ∷ []
reads (cat_kind first second) = first ∷ second ∷ []
reads (weave_kind first second) = first ∷ second ∷ []

-- the forms of lines; blank lines and comments are passed over
pub data Form : Type 0 where
  skip_line : Form
  cpus_line : List ℕ → Form
  caches_line : List ℕ → Form
  room_line : List ℕ → Form
  task_line : List ℕ → Kind → Form
  text_line : List ℕ → Form
  end_line : Form

-- `cpus N`, `caches G`, `room K`
abbrev pub setting_form : List ℕ → List ℕ → Option Form
setting_form word number =
    if bytes_eq word (codes "cpus") then Some (cpus_line number)
    else if bytes_eq word (codes "caches") then Some (caches_line number)
    else if bytes_eq word (codes "room") then Some (room_line number)
    else None

-- `task NAME KIND from A`
abbrev pub reader_form : List ℕ → List ℕ → List ℕ → Option Form
reader_form name kind source =
    if bytes_eq kind (codes "upper") then Some (task_line name (upper_kind source))
    else if bytes_eq kind (codes "number") then Some (task_line name (number_kind source))
    else if bytes_eq kind (codes "tally") then Some (task_line name (tally_kind source))
    else None

-- `task NAME KIND from A B`
abbrev pub joining_form : List ℕ → List ℕ → List ℕ → List ℕ → Option Form
joining_form name kind first second =
    if bytes_eq kind (codes "cat") then Some (task_line name (cat_kind first second))
    else if bytes_eq kind (codes "weave") then Some (task_line name (weave_kind first second))
    else None

-- `task NAME KIND WORD from A`
abbrev pub choosing_form : List ℕ → List ℕ → List ℕ → List ℕ → Option Form
choosing_form name kind word source =
    if bytes_eq kind (codes "keep") then Some (task_line name (keep_kind word source))
    else if bytes_eq kind (codes "drop") then Some (task_line name (drop_kind word source))
    else if bytes_eq kind (codes "pin") then Some (task_line name (pin_kind word source))
    else if bytes_eq kind (codes "custom") then Some (task_line name (custom_kind word source))
    else None

-- a kind of three words: of two tasks, or of a word and a task
abbrev pub long_form : List ℕ → List ℕ → List ℕ → List ℕ → List ℕ → Option Form
long_form name kind third fourth fifth =
    if bytes_eq kind (codes "cat") || bytes_eq kind (codes "weave")
    then (if bytes_eq third (codes "from") then joining_form name kind fourth fifth else None)
    else if bytes_eq fourth (codes "from") then choosing_form name kind third fifth else None

-- the form of a line of these words, if it has one
abbrev pub worded_form : List (List ℕ) → Option Form
worded_form (word ∷ []) = if bytes_eq word (codes "end") then Some end_line else None
worded_form (word ∷ number ∷ []) = setting_form word number
worded_form (word ∷ name ∷ kind ∷ []) =
    if bytes_eq word (codes "task") && bytes_eq kind (codes "lines") then Some (task_line name lines_kind) else None
worded_form (word ∷ name ∷ kind ∷ number ∷ []) =
    if bytes_eq word (codes "task") && bytes_eq kind (codes "count") then Some (task_line name (count_kind number))
    else None
worded_form (word ∷ name ∷ kind ∷ from ∷ source ∷ []) =
    if bytes_eq word (codes "task") && bytes_eq from (codes "from") then reader_form name kind source else None
worded_form (word ∷ name ∷ kind ∷ third ∷ fourth ∷ fifth ∷ []) =
    if bytes_eq word (codes "task") then long_form name kind third fourth fifth else None
worded_form _ = None

-- the text of a text line, from what follows its bar: one space right behind the bar isn't part of it
abbrev pub text_of : List ℕ → List ℕ
text_of [] = []
text_of (byte ∷ bytes) = if byte == 32 then bytes else byte ∷ bytes

-- the form of a line that begins with no blank
abbrev pub bare_form : List ℕ → Option Form
bare_form [] = Some skip_line
bare_form (byte ∷ bytes) =
    if byte == 35 then Some skip_line
    else if byte == 124 then Some (text_line (text_of bytes))
    else worded_form (words (byte ∷ bytes))

-- the form of a line, if it has one
unfoldable pub form_of : List ℕ → Option Form
form_of line = bare_form (skip_blanks (without_returns line))

-- ---- forms as the reader holds them

abbrev pub kind_of : kind.Kind → Kind
kind_of kind.TheVariants.Lines = lines_kind
kind_of (kind.TheVariants.Count number) = count_kind number.now
kind_of (kind.TheVariants.Upper source) = upper_kind source.now
kind_of (kind.TheVariants.Number source) = number_kind source.now
kind_of (kind.TheVariants.Keep prefix source) = keep_kind prefix.now source.now
kind_of (kind.TheVariants.Drop prefix source) = drop_kind prefix.now source.now
kind_of (kind.TheVariants.Tally source) = tally_kind source.now
kind_of (kind.TheVariants.Pin number source) = pin_kind number.now source.now
kind_of (kind.TheVariants.Custom number source) = custom_kind number.now source.now
kind_of (kind.TheVariants.Cat first second) = cat_kind first.now second.now
kind_of (kind.TheVariants.Weave first second) = weave_kind first.now second.now

abbrev pub form_seen : form.Form → Form
form_seen form.TheVariants.Skip = skip_line
form_seen (form.TheVariants.Cpus number) = cpus_line number.now
form_seen (form.TheVariants.Caches number) = caches_line number.now
form_seen (form.TheVariants.Room number) = room_line number.now
form_seen (form.TheVariants.Task name kind) = task_line name.now (kind_of kind)
form_seen (form.TheVariants.Text text) = text_line text.now
form_seen form.TheVariants.End = end_line

abbrev pub names_in : from.Inputs → List (List ℕ)
names_in from.TheVariants.Nothing = []
names_in (from.TheVariants.One source) = source.now ∷ []
names_in (from.TheVariants.Two first second) = first.now ∷ second.now ∷ []

-- texts and words have no line feed
abbrev pub HasLinePrefix : Kind → Type 0
HasLinePrefix (keep_kind prefix source) = IsLine prefix
HasLinePrefix (drop_kind prefix source) = IsLine prefix
HasLinePrefix _ = ⊤

abbrev pub AreLines : List (List ℕ) → Type 0
AreLines [] = ⊤
AreLines (line ∷ lines) = IsLine line × AreLines lines

abbrev pub HasLineSources : Kind → Type 0
HasLineSources kind = AreLines (reads kind)

abbrev pub HasLineText : Form → Type 0
HasLineText (text_line text) = IsLine text
HasLineText (task_line name kind) = IsLine name × HasLinePrefix kind × HasLineSources kind
HasLineText _ = ⊤
