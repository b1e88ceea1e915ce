-- The fixed words of the texts, a definition each: what a reader compares with is what a listing writes.
use Rattle.std.specs.Prelude.{ℕ, List, [], ◌∷◌}

-- "vn-protocol<tab>1"
abbrev pub protocol_header : List ℕ
protocol_header = 118 ∷ 110 ∷ 45 ∷ 112 ∷ 114 ∷ 111 ∷ 116 ∷ 111 ∷ 99 ∷ 111 ∷ 108 ∷ 9 ∷ 49 ∷ []

-- "vn-mapping<tab>1"
abbrev pub mapping_header : List ℕ
mapping_header = 118 ∷ 110 ∷ 45 ∷ 109 ∷ 97 ∷ 112 ∷ 112 ∷ 105 ∷ 110 ∷ 103 ∷ 9 ∷ 49 ∷ []

-- "vn-mapping<tab>2"
abbrev pub mapping_header2 : List ℕ
mapping_header2 = 118 ∷ 110 ∷ 45 ∷ 109 ∷ 97 ∷ 112 ∷ 112 ∷ 105 ∷ 110 ∷ 103 ∷ 9 ∷ 50 ∷ []

-- "vn-plan<tab>1"
abbrev pub plan_header : List ℕ
plan_header = 118 ∷ 110 ∷ 45 ∷ 112 ∷ 108 ∷ 97 ∷ 110 ∷ 9 ∷ 49 ∷ []

-- "vn-judge<tab>1"
abbrev pub judge_header : List ℕ
judge_header = 118 ∷ 110 ∷ 45 ∷ 106 ∷ 117 ∷ 100 ∷ 103 ∷ 101 ∷ 9 ∷ 49 ∷ []

-- "message"
abbrev pub message_word : List ℕ
message_word = 109 ∷ 101 ∷ 115 ∷ 115 ∷ 97 ∷ 103 ∷ 101 ∷ []

-- "event"
abbrev pub event_word : List ℕ
event_word = 101 ∷ 118 ∷ 101 ∷ 110 ∷ 116 ∷ []

-- "state"
abbrev pub state_word : List ℕ
state_word = 115 ∷ 116 ∷ 97 ∷ 116 ∷ 101 ∷ []

-- "cell"
abbrev pub cell_word : List ℕ
cell_word = 99 ∷ 101 ∷ 108 ∷ 108 ∷ []

-- "req"
abbrev pub req_word : List ℕ
req_word = 114 ∷ 101 ∷ 113 ∷ []

-- "fwd"
abbrev pub fwd_word : List ℕ
fwd_word = 102 ∷ 119 ∷ 100 ∷ []

-- "data"
abbrev pub data_word : List ℕ
data_word = 100 ∷ 97 ∷ 116 ∷ 97 ∷ []

-- "ctl"
abbrev pub ctl_word : List ℕ
ctl_word = 99 ∷ 116 ∷ 108 ∷ []

-- "cache"
abbrev pub cache_word : List ℕ
cache_word = 99 ∷ 97 ∷ 99 ∷ 104 ∷ 101 ∷ []

-- "dir"
abbrev pub dir_word : List ℕ
dir_word = 100 ∷ 105 ∷ 114 ∷ []

-- "stable"
abbrev pub stable_word : List ℕ
stable_word = 115 ∷ 116 ∷ 97 ∷ 98 ∷ 108 ∷ 101 ∷ []

-- "transient"
abbrev pub transient_word : List ℕ
transient_word = 116 ∷ 114 ∷ 97 ∷ 110 ∷ 115 ∷ 105 ∷ 101 ∷ 110 ∷ 116 ∷ []

-- "stall"
abbrev pub stall_word : List ℕ
stall_word = 115 ∷ 116 ∷ 97 ∷ 108 ∷ 108 ∷ []

-- "go"
abbrev pub go_word : List ℕ
go_word = 103 ∷ 111 ∷ []

-- "map"
abbrev pub map_word : List ℕ
map_word = 109 ∷ 97 ∷ 112 ∷ []

-- "class"
abbrev pub class_word : List ℕ
class_word = 99 ∷ 108 ∷ 97 ∷ 115 ∷ 115 ∷ []

-- "networks"
abbrev pub networks_word : List ℕ
networks_word = 110 ∷ 101 ∷ 116 ∷ 119 ∷ 111 ∷ 114 ∷ 107 ∷ 115 ∷ []

-- "cycle"
abbrev pub cycle_word : List ℕ
cycle_word = 99 ∷ 121 ∷ 99 ∷ 108 ∷ 101 ∷ []

-- "fit"
abbrev pub fit_word : List ℕ
fit_word = 102 ∷ 105 ∷ 116 ∷ []

-- "unfit"
abbrev pub unfit_word : List ℕ
unfit_word = 117 ∷ 110 ∷ 102 ∷ 105 ∷ 116 ∷ []

-- "step"
abbrev pub step_word : List ℕ
step_word = 115 ∷ 116 ∷ 101 ∷ 112 ∷ []

-- "waits"
abbrev pub waits_word : List ℕ
waits_word = 119 ∷ 97 ∷ 105 ∷ 116 ∷ 115 ∷ []

-- "queues"
abbrev pub queues_word : List ℕ
queues_word = 113 ∷ 117 ∷ 101 ∷ 117 ∷ 101 ∷ 115 ∷ []

-- "refused"
abbrev pub refused_word : List ℕ
refused_word = 114 ∷ 101 ∷ 102 ∷ 117 ∷ 115 ∷ 101 ∷ 100 ∷ []

-- Between two fields.
abbrev pub tab : List ℕ
tab = 9 ∷ []

-- At the end of a line.
abbrev pub newline : List ℕ
newline = 10 ∷ []
