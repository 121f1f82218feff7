-- One to one renamings of addresses, and values, cells and outcomes that are the same but for them (this project's own).
use Rattle.std.specs.Prelude.{◌≡◌, ℕ, ℤ, List, [], ◌∷◌, Option, Some, None}
use Rattle.jo_text.specs.declared.descriptors.FieldDesc.{FieldDesc}
use Rattle.jo_prog.specs.declared.sites.Cause.{Cause}
use Rattle.jo_prog.specs.Values.{Value, int, null, ref, Info, Cell, field, element, static, cursor, started}
use Rattle.machine.specs.Execution.{Ways, Effect, pushes, puts, jumps, raises, throws_at, allocates, returns, Outcome}
use Rattle.machine.specs.Invocation.{Invoked, enters, begins, joins, asks, shows, releases, fails}

-- both are there and are related, or none is
pub data Both {A B : Type 0} (R : A → B → Type 0) : Option A → Option B → Type 0 where
  neither : Both R None None
  each : (a : A) (b : B) → R a b → Both R (Some a) (Some b)

-- values that are the same but for the names of addresses
pub data RenamedValue {A B : Type 0} (R : A → B → Type 0) : Value A → Value B → Type 0 where
  same_int : (z : ℤ) → RenamedValue R (int z) (int z)
  both_null : RenamedValue R null null
  renamed : (a : A) (b : B) → R a b → RenamedValue R (ref a) (ref b)

-- lists of such values, as long as one another
pub data RenamedValues {A B : Type 0} (R : A → B → Type 0) : List (Value A) → List (Value B) → Type 0 where
  no_values : RenamedValues R [] []
  one_more : (v : Value A) (w : Value B) (vs : List (Value A)) (ws : List (Value B)) → RenamedValue R v w → RenamedValues R vs ws → RenamedValues R (v ∷ vs) (w ∷ ws)

pub data RenamedCell {A B : Type 0} (R : A → B → Type 0) : Cell A → Cell B → Type 0 where
  same_field : (a : A) (b : B) (f : ℕ) → R a b → RenamedCell R (field a f) (field b f)
  same_element : (a : A) (b : B) (i : ℕ) → R a b → RenamedCell R (element a i) (element b i)
  same_static : (f : ℕ) → RenamedCell R (static f) (static f)
  same_cursor : (source : ℕ) → RenamedCell R (cursor source) (cursor source)
  same_flag : (a : A) (b : B) → R a b → RenamedCell R (started a) (started b)

pub data RenamedEffect {A B : Type 0} (R : A → B → Type 0) : Effect A → Effect B → Type 0 where
  both_push : (vs : List (Value A)) (ws : List (Value B)) → RenamedValues R vs ws → RenamedEffect R (pushes vs) (pushes ws)
  both_put : (k : ℕ) (v : Value A) (w : Value B) → RenamedValue R v w → RenamedEffect R (puts k v) (puts k w)
  both_jump : (target : ℕ) → RenamedEffect R (jumps target) (jumps target)
  both_raise : (cause : Cause) → RenamedEffect R (raises cause) (raises cause)
  both_throw : (a : A) (b : B) → R a b → RenamedEffect R (throws_at a) (throws_at b)
  both_allocate : (info : Info) → RenamedEffect R (allocates info) (allocates info)
  both_return : (v : Option (Value A)) (w : Option (Value B)) → Both (RenamedValue R) v w → RenamedEffect R (returns v) (returns w)

pub record RenamedChange {A B : Type 0} (R : A → B → Type 0) (one : Cell A × Value A) (other : Cell B × Value B) : Type 0 where
  pub cell : RenamedCell R one.0 other.0
  pub value : RenamedValue R one.1 other.1

pub record RenamedOutcome {A B : Type 0} (R : A → B → Type 0) (one : Outcome A) (other : Outcome B) : Type 0 where
  pub effect : RenamedEffect R one.effect other.effect
  pub written : Both (RenamedChange R) one.written other.written

pub data RenamedInvoked {A B : Type 0} (R : A → B → Type 0) : Invoked A → Invoked B → Type 0 where
  both_enter : (m : ℕ) (vs : List (Value A)) (ws : List (Value B)) → RenamedValues R vs ws → RenamedInvoked R (enters m vs) (enters m ws)
  both_begin : (a : A) (b : B) (m : ℕ) → R a b → RenamedInvoked R (begins a m) (begins b m)
  both_join : (a : A) (b : B) → R a b → RenamedInvoked R (joins a) (joins b)
  both_ask : (source : ℕ) → RenamedInvoked R (asks source) (asks source)
  both_show : (sink : ℕ) (z : ℤ) → RenamedInvoked R (shows sink z) (shows sink z)
  both_release : (m : ℕ) (z : ℤ) → RenamedInvoked R (releases m z) (releases m z)
  both_fail : (cause : Cause) → RenamedInvoked R (fails cause) (fails cause)

-- the relation is one to one, keeps what stands at an address, and relates the addresses of each text
pub record IsRenaming {A B : Type 0} (R : A → B → Type 0) (one : Ways A) (other : Ways B) : Type 0 where
  pub same : (a c : A) (b d : B) → R a b → R c d → one.same a c ≡ other.same b d
  pub info : (a : A) (b : B) → R a b → one.info a ≡ other.info b
  pub text : (text : List ℕ) → Both R (one.text text) (other.text text)
