-- The words: their columns, and what each shows. Word n of column c is word 64 n + c, so a task, a processor, a
-- condition and a seat have 16 words each of their own. The first eight of a number stay 0: word 0, which each lock
-- taken and given loads, is on a cache line that nobody writes.
--
--   word         values                              who stores it, under which lock
--   STATE of T   TASK_RUNNING, a sleep state,        T's own seat, under none (TASK_DEAD: T's);
--                TASK_WAKING, TASK_DEAD, TASK_NEW    a waker TASK_WAKING: T's;
--                                                    another seat TASK_RUNNING: T's queue's, of a new T its own
--   RQ of T      4 m + on after m changes;           0: the seat of T's processor, its queue's;
--                on: 0 off, 1 queued, 2 moving       1, 2: any seat, T's and T's queue's
--   BUSY of T    2 n + busy after n changes;         the seat of T's processor; 1: its queue's; 0: none
--                busy: 0 clear, 1 set
--   CPU of T     a processor                         any seat, T's, while T is new, claimed or moving
--   COND of k    a counter, modulo 2^64              any seat, none
--   a lock       0 free, s + 1 held by seat s        who takes the lock, and who gives it
--   the others   as they were made                   nobody yet
--
-- Linux's `on_rq` is the queue word here, in column RQ, and its `on_cpu` the busy word, in column BUSY.
use Rattle.std.specs.Prelude.{ℕ, zero, suc, ◌+◌, ◌*◌, ◌%◌, ◌==◌, Bool, Option, Some, None, List, slice_index, nat_lt}
use Rattle.std.specs.Prelude.{if◌then◌else◌}
use Rattle.core_data.specs.declared.words.Phase.{Phase}
use Rattle.core_data.specs.declared.words.Phase.TheVariants.{Live, Leaving, Swept, Dead, Rising}

-- of a task; no step changes BODY, by which bodies are taken out and put home
abbrev pub LOCK : ℕ
LOCK = 8

abbrev pub BODY : ℕ
BODY = 9

abbrev pub STATE : ℕ
STATE = 10

abbrev pub RQ : ℕ
RQ = 11

abbrev pub BUSY : ℕ
BUSY = 12

abbrev pub CPU : ℕ
CPU = 13

abbrev pub COUNT : ℕ
COUNT = 14

-- of a processor
abbrev pub QUEUE_LOCK : ℕ
QUEUE_LOCK = 24

abbrev pub WORKS_LOCK : ℕ
WORKS_LOCK = 25

abbrev pub LIST_LOCK : ℕ
LIST_LOCK = 26

abbrev pub HINT : ℕ
HINT = 27

abbrev pub PINNED : ℕ
PINNED = 28

abbrev pub PHASE : ℕ
PHASE = 29

abbrev pub ACTIVE : ℕ
ACTIVE = 30

-- of a condition
abbrev pub WAIT_LOCK : ℕ
WAIT_LOCK = 40

abbrev pub COND : ℕ
COND = 41

-- of a seat
abbrev pub MARK : ℕ
MARK = 56

abbrev pub DONE : ℕ
DONE = 57

abbrev pub REFS : ℕ
REFS = 58

abbrev pub STRIDE : ℕ
STRIDE = 64

-- the words of a flat list
abbrev pub words_of : List ℕ → ℕ → ℕ → ℕ
words_of words n c = if nat_lt c STRIDE then slice_index words (STRIDE * n + c) else 0

-- a lock's word is 0, or 1 more than the seat that holds the lock
abbrev pub holder : ℕ → Option ℕ
holder zero = None
holder (suc s) = Some s

abbrev pub is_set : ℕ → Bool
is_set word = word % 2 == 1

abbrev pub phase_of : ℕ → Phase
phase_of word = if word == 0 then Live else if word == 1 then Leaving else if word == 2 then Swept else if word == 3
    then Dead else Rising

-- the words that steps store
abbrev pub rq_word : ℕ → ℕ → ℕ
rq_word m on = 4 * m + on

abbrev pub busy_word : ℕ → ℕ → ℕ
busy_word n busy = 2 * n + busy
