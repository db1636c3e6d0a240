-- The table of a script, and what its run tells.
use Rattle.std.proofs.Common.{◌≡◌, ◌+◌, ◌∙◌, ℕ, suc, ◌++◌, ◌∷◌, [], List, map, length, Ok, Err, refl, sym, subst, ap}
use Rattle.std.specs.Prelude.{Option, Result, OnOk}
use Rattle.std.proofs.lemmas.List.{length-map}
use Rattle.handoff_data.specs.Legal.{IsLegal}
use Rattle.handoff_data.specs.declared.entry.Entry.{Entry}
use Rattle.handoff_data.specs.declared.shape.Shape.{Shape}
use Rattle.pipe_bodies.specs.Bodies.{BodyView, Lasting}
use Rattle.pipe_bodies.specs.Lastings.{lasting_code}
use Rattle.pipe_bodies.specs.Lastings.{lasting_of as kept_in}
use Rattle.pipe_bodies.specs.Nets.{IsNet, IsNetAfter, begun_tasks, lasting_of}
use Rattle.pipe_bodies.specs.Rings.{Ring}
use Rattle.run_cells.specs.Ends.{body_of, kept_of, IsTableOf}
use Rattle.run_cells.specs.declared.cell.Cell.{Cell}
use Rattle.run_script.proofs.Journals.{cpus_are, tasks_are, seats_are}
use Rattle.run_script.specs.Ran.{HasRun}
use Rattle.run_script.specs.Told.{TellsRun}
use Rattle.task_script.specs.declared.script.Script.{Script}
use Rattle.task_script.specs.declared.script.TaskDef.{TaskDef}
use Rattle.task_words.specs.Closing.{journals_in}
use Rattle.task_words.specs.Views.{PassView}
use Rattle.word_table.specs.Views.{WordsView}

-- there is a body for each task
net_count : (outputs : List (Option Ring)) (ds : List TaskDef) (ls : List Lasting) → IsNetAfter outputs ds ls → length ls ≡ length ds
net_count outputs [] [] net = refl
net_count outputs [] (l ∷ ls) net = absurd net
net_count outputs (d ∷ ds) [] net = absurd net
net_count outputs (d ∷ ds) (l ∷ ls) net = ap suc (net_count (outputs ++ l.rings.output ∷ []) ds ls net.1)

-- what bodies keep comes back from its numbers
kept_back : ((l : Lasting) → kept_in (lasting_code l) ≡ l) → (ls : List Lasting) → kept_of (map lasting_code ls) ≡ ls
kept_back law [] = refl
kept_back law (l ∷ ls) = λ i. law l i ∷ kept_back law ls i

module _ {W : Type 0} (cells : List (Cell W)) (bodies : List BodyView) (same : map body_of cells ≡ bodies) where
  pub cell_count : (ds : List TaskDef) → IsNet ds (map lasting_of bodies) → length cells ≡ length ds
  cell_count ds net =
      sym (length-map cells body_of) ∙ ap length same ∙ sym (length-map bodies lasting_of) ∙ net_count [] ds (map lasting_of bodies) net.joined

  codes_of : (cs : List (Cell W)) → map (λ (c : Cell W). lasting_code c.body.lasting) cs ≡ map lasting_code (map lasting_of (map body_of cs))
  codes_of [] = refl
  codes_of (c ∷ cs) = ap (λ z. lasting_code c.body.lasting ∷ z) (codes_of cs)

  lasting_is : (lasting : List (List ℕ)) → lasting ≡ map (λ (c : Cell W). lasting_code c.body.lasting) cells → lasting ≡ map lasting_code (map lasting_of bodies)
  lasting_is lasting is = is ∙ codes_of cells ∙ ap (λ (bs : List BodyView). map lasting_code (map lasting_of bs)) same

  pub table_of : (ds tasks meant : List TaskDef) (lasting : List (List ℕ)) → tasks ≡ ds → IsNet meant (map lasting_of bodies) → begun_tasks ds (map lasting_of bodies) ≡ meant
      → lasting ≡ map (λ (c : Cell W). lasting_code c.body.lasting) cells → IsTableOf tasks lasting
  table_of ds tasks meant lasting tasks_same net begun is = record {
    keeps = map lasting_of bodies;
    net = subst (λ (ts : List TaskDef). IsNet (begun_tasks ts (map lasting_of bodies)) (map lasting_of bodies)) (sym tasks_same)
        (subst (λ (ts : List TaskDef). IsNet ts (map lasting_of bodies)) (sym begun) net);
    same = lasting_is lasting is;
  }

  -- the tasks with the plans with which the bodies of the table began are the tasks as they are meant
  pub begun_as_meant : (ds tasks meant : List TaskDef) (lasting : List (List ℕ)) → ((l : Lasting) → kept_in (lasting_code l) ≡ l) → tasks ≡ ds
      → begun_tasks ds (map lasting_of bodies) ≡ meant → lasting ≡ map (λ (c : Cell W). lasting_code c.body.lasting) cells → begun_tasks tasks (kept_of lasting) ≡ meant
  begun_as_meant ds tasks meant lasting law tasks_same begun is =
      ap (λ (ts : List TaskDef). begun_tasks ts (kept_of lasting)) tasks_same
      ∙ ap (λ (ls : List Lasting). begun_tasks ds ls) (ap kept_of (lasting_is lasting is) ∙ kept_back law (map lasting_of bodies)) ∙ begun

pub always : {T E P : Type 0} (r : Result T E) → P → OnOk r P
always (Ok x) p = p
always (Err e) p = tt

pub tells_run : {G : Type 0} (told : G → Option (List Entry)) (script : Script) (wk : WordsView) (old new : List G) (ps : List PassView) → wk.shape ≡ script.shape
    → IsLegal (journals_in wk.shape ps) → HasRun told wk old new ps → TellsRun told script old new
tells_run told script wk old new ps same legal run = record {
  journals = journals_in wk.shape ps;
  cpus_are = cpus_are wk.shape ps ∙ ap (λ (s : Shape). s.cpus) same;
  tasks_are = tasks_are wk.shape ps ∙ ap (λ (s : Shape). s.tasks) same;
  seats_are = seats_are wk.shape ps ∙ ap (λ (s : Shape). s.cpus + s.agents) same;
  legal = legal;
  each = run.each;
}
