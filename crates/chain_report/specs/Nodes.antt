-- How nodes are spelled (this project's own).
use Rattle.std.specs.Prelude.{ℕ, List, [], ◌∷◌, ◌++◌, Option, Some, None, codes, slice_get}
use Rattle.std.specs.Fmt.{decimal}
use Rattle.jo_text.specs.Escapes.{escaped}
use Rattle.jo_prog.specs.declared.program.Program.{Program}
use Rattle.jo_prog.specs.declared.sites.Site.{Site}
use Rattle.jo_prog.specs.declared.sites.Site.TheVariants.{Text, Args, Alloc, Call, Raise}
use Rattle.jo_prog.specs.Program.{class_at}
use Rattle.jo_prog.specs.Spelling.{class_name, spelled_method}
use Rattle.dep_nodes.specs.declared.kinds.NodeKind.{NodeKind}
use Rattle.dep_nodes.specs.declared.kinds.NodeKind.TheVariants.{Entry, Exit, Instr, Call as CallNode, RetVal, RetKind, Throw, Catch, Poll, XPoll, Arg, Param, Kind, Value, Thrown}
use Rattle.dep_nodes.specs.Nodes.{Node}

-- a word, a space, a number
abbrev pub numbered : List ℕ → ℕ → List ℕ
numbered word n = word ++ 32 ∷ decimal n

abbrev pub spelled_kind : NodeKind → List ℕ
spelled_kind Entry = codes "entry"
spelled_kind Exit = []
spelled_kind (Instr pc) = numbered (codes "instr") pc
spelled_kind (CallNode pc) = numbered (codes "call") pc
spelled_kind (RetVal pc) = numbered (codes "retval") pc
spelled_kind (RetKind pc) = numbered (codes "retkind") pc
spelled_kind (Throw pc) = numbered (codes "throw") pc
spelled_kind (Catch row) = numbered (codes "catch") row
spelled_kind (Poll pc target) = numbered (numbered (codes "poll") pc) target
spelled_kind (XPoll pc row) = numbered (numbered (codes "xpoll") pc) row
spelled_kind (Arg pc i) = numbered (numbered (codes "arg") pc) i
spelled_kind (Param i) = numbered (codes "param") i
spelled_kind Kind = codes "kind"
spelled_kind Value = codes "value"
spelled_kind Thrown = codes "thrown"

-- ---- sites and contexts

-- an instruction of a method: the method, `@`, the pc
abbrev pub spelled_at : Program → ℕ → ℕ → List ℕ
spelled_at program method pc = spelled_method program method ++ 64 ∷ decimal pc

-- a class by its name
abbrev pub spelled_class : Program → ℕ → List ℕ
spelled_class program class = escaped (class_name (class_at program class))

-- a site; an exception has its class behind `!`
abbrev pub spelled_site : Program → Site → List ℕ
spelled_site program Text = codes "string"
spelled_site program Args = codes "args"
spelled_site program (Alloc method pc) = spelled_at program method pc
spelled_site program (Call method pc) = spelled_at program method pc
spelled_site program (Raise method pc class) = spelled_at program method pc ++ 33 ∷ spelled_class program class

-- the site with that number, nothing where the program has none
abbrev pub spelled_site_or_empty : Program → Option Site → List ℕ
spelled_site_or_empty program None = []
spelled_site_or_empty program (Some site) = spelled_site program site

abbrev pub numbered_site : Program → ℕ → List ℕ
numbered_site program number = spelled_site_or_empty program (slice_get program.sites number)

-- the sites with these numbers, a comma between each two
abbrev pub spelled_sites : Program → List ℕ → List ℕ
spelled_sites program [] = []
spelled_sites program (last ∷ []) = numbered_site program last
spelled_sites program (number ∷ next ∷ more) = numbered_site program number ++ 44 ∷ spelled_sites program (next ∷ more)

-- a context: its sites in brackets
abbrev pub spelled_context : Program → List ℕ → List ℕ
spelled_context program context = 91 ∷ spelled_sites program context ++ 93 ∷ []

-- ---- nodes

-- the method, the context and the kind, a space between each two
abbrev pub spelled_node : Program → Node → List ℕ
spelled_node program n = spelled_method program n.inst.method ++ 32 ∷ spelled_context program n.inst.context ++ 32 ∷ spelled_kind n.kind
