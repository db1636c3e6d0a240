-- What is known while the bodies of a script are built.
use Rattle.std.proofs.Common.{◌≡◌, ℕ, ◌+◌, ◌<◌, ◌≤◌, List, [], ◌∷◌, ◌++◌, map, length, get_or, drop, refl, sym, ap, ◌∙◌, arith, append-nil, append_assoc, subst, length-append}
use Rattle.std.proofs.lemmas.List.{drop_more, drop_all}
use Rattle.std.specs.Prelude.{None, slice_index_or}
use Rattle.task_script.specs.Plan.{sides}
use Rattle.pipe_bodies.specs.Courses.{plan_in}
use Rattle.pipe_bodies.specs.Bodies.{BodyView}
use Rattle.pipe_bodies.specs.Nets.{IsNet, lasting_of, output_of, part_of, IsReading, reads_on, CanBeJoinedAfter, CanBeJoined, NotIn, reads_after, with_plan, with_plans, Built}
use Rattle.pipe_bodies.specs.declared.parts.Course.{Course}
use Rattle.task_script.specs.declared.script.TaskDef.{TaskDef}
use Rattle.pipe_bodies.proofs.BuildLaws.{Built-none, net-built, outputs_in}
use Rattle.pipe_bodies.proofs.ForestScripts.{not_read}

-- of all tasks, with the plans of their courses, those that are left
pub record Building (tasks ds : List TaskDef) (bodies : List BodyView) (i : ℕ) : Type 0 where
  pub before : List TaskDef
  pub reads : List ℕ
  pub all : before ++ ds ≡ tasks
  pub script : CanBeJoinedAfter (length before) reads ds
  pub built : Built before reads (map part_of bodies) (map output_of bodies)
  pub count : length bodies ≡ length before
  pub place : length before ≡ i
  pub read : reads_after reads ds ≡ reads_after [] tasks

pub building-starts : (tasks : List TaskDef) → CanBeJoined tasks → Building tasks tasks [] 0
building-starts tasks s = record { before = []; reads = []; all = refl; script = s; built = Built-none; count = refl; place = refl; read = refl }

pub building-number : (tasks ds : List TaskDef) (bodies : List BodyView) (i : ℕ) → Building tasks ds bodies i → length bodies ≡ i
building-number tasks ds bodies i s = s.count ∙ s.place

pub building-end : (tasks ds : List TaskDef) (bodies : List BodyView) (i : ℕ) → ds ≡ [] → Building tasks ds bodies i → IsNet tasks (map lasting_of bodies)
building-end tasks ds bodies i e s =
    let done : Building tasks [] bodies i = subst (λ z. Building tasks z bodies i) e s in
    let whole : done.before ≡ tasks = sym (append-nil done.before) ∙ done.all in
    record {
      joined = net-built tasks bodies done.reads (done.count ∙ ap length whole) (subst (λ z. Built z done.reads (map part_of bodies) (map output_of bodies)) whole done.built);
      unread = λ t e. ap (λ z. slice_index_or z t None) (outputs_in bodies) ∙ done.built.unread t (subst (λ z. NotIn z t) (sym done.read) (not_read tasks [] t e tt));
    }

module _ {W : Type 0} (tasks : List TaskDef) (i : ℕ) where
  pub none_left : (rest : List (Course W)) → length tasks ≤ i → with_plans (drop i tasks) (map plan_in rest) ≡ []
  none_left rest l = ap (λ z. with_plans z (map plan_in rest)) (drop_all i tasks l)

  module _ (d : TaskDef) (rest : List (Course W)) (l : i < length tasks) (e : d ≡ get_or tasks i d) (n : length rest ≡ length (drop i tasks)) where
    at_task : drop i tasks ≡ d ∷ drop (i + 1) tasks
    at_task = drop_more tasks i d l ∙ ap (λ z. z ∷ drop (i + 1) tasks) (sym e)

    pub building-none : length rest ≡ 0 → ⊥
    building-none z = let long = n ∙ ap length at_task in absurd (omega arith)

    module _ (c : Course W) (more : List (Course W)) (f : rest ≡ c ∷ more) where
      pub building-rest : length more ≡ length (drop (i + 1) tasks)
      building-rest = let long = sym (ap length f) ∙ n ∙ ap length at_task in omega arith

      here : with_plans (drop i tasks) (map plan_in rest) ≡ with_plan d (plan_in c) ∷ with_plans (drop (i + 1) tasks) (map plan_in more)
      here = ap (λ z. with_plans z (map plan_in rest)) at_task ∙ ap (λ z. with_plans (d ∷ drop (i + 1) tasks) (map plan_in z)) f

      module _ (all : List TaskDef) (bodies : List BodyView) (s : Building all (with_plans (drop i tasks) (map plan_in rest)) bodies i) where
        there : Building all (with_plan d (plan_in c) ∷ with_plans (drop (i + 1) tasks) (map plan_in more)) bodies i
        there = subst (λ z. Building all z bodies i) here s

        pub building-sides : length d.from ≡ sides (plan_in c)
        building-sides = there.script.0

        pub building-reads : (ds : List TaskDef) × (reads : List ℕ) × IsReading (length ds) reads d.from × Built ds reads (map part_of bodies) (map output_of bodies)
        building-reads = (there.before, there.reads, there.script.1, there.built)

        pub building-step : (bodies' : List BodyView) → length bodies' ≡ length bodies + 1
            → ((ds : List TaskDef) (reads : List ℕ) → IsReading (length ds) reads d.from → Built ds reads (map part_of bodies) (map output_of bodies)
            → Built (ds ++ with_plan d (plan_in c) ∷ []) (reads_on d.from reads) (map part_of bodies') (map output_of bodies'))
            → Building all (with_plans (drop (i + 1) tasks) (map plan_in more)) bodies' (i + 1)
        building-step bodies' k b =
            let long : length (there.before ++ with_plan d (plan_in c) ∷ []) ≡ length there.before + 1 = length-append there.before (with_plan d (plan_in c) ∷ []) in
            record {
              before = there.before ++ with_plan d (plan_in c) ∷ [];
              reads = reads_on d.from there.reads;
              all = append_assoc there.before (with_plan d (plan_in c) ∷ []) (with_plans (drop (i + 1) tasks) (map plan_in more)) ∙ there.all;
              script = rw long there.script.2;
              built = b there.before there.reads there.script.1 there.built;
              count = k ∙ ap (λ z. z + 1) there.count ∙ sym long;
              place = long ∙ ap (λ z. z + 1) there.place;
              read = there.read;
            }
