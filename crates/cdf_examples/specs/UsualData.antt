-- What the usual file means. Values are in network order.
use Rattle.std.specs.Prelude.{ℕ, pos, List, [], ◌∷◌, ◌++◌, true, false, codes, Some, None}
use Rattle.cdf_model.specs.declared.data_type.DataType.TheVariants.{Real4, TimeTt2000, Char}
use Rattle.cdf_model.specs.declared.head.Head.{Head}
use Rattle.cdf_model.specs.declared.head.Majority.TheVariants.{Row}
use Rattle.cdf_model.specs.declared.event.Event.{Event}
use Rattle.cdf_model.specs.declared.event.Event.TheVariants as events
use Rattle.cdf_model.specs.declared.kinds.EntryKind.TheVariants as entries
use Rattle.cdf_model.specs.declared.kinds.Kind.TheVariants as kinds
use Rattle.cdf_model.specs.declared.kinds.Scope.TheVariants as scopes
use Rattle.cdf_model.specs.declared.kinds.Sparse.TheVariants.{NoRule}
use Rattle.cdf_model.specs.DataSet.{Attribute, DataSet, Variable}
use Rattle.cdf_format.specs.Index.{Nodes, no_node, node, no_entry, block}
use Rattle.cdf_format.specs.Owners.{Owner, File, OneAttribute, OneVariable}
use Rattle.cdf_model.specs.declared.space.Space.{Space}
use Rattle.cdf_format.specs.Shape.{Shape}
use Rattle.cdf_examples.specs.Building.{zeros}

-- ---- records

-- of one node with room for 7 entries
abbrev pub epoch_index : Nodes
epoch_index = node 1140 7 (block 0 1 1280 false (block 2 3 1308 false no_entry)) no_node

abbrev pub b_gse_index : Nodes
b_gse_index = node 1688 7 (block 0 3 1828 false no_entry) no_node

abbrev pub label_index : Nodes
label_index = node 2240 7 (block 0 0 2380 false no_entry) no_node

abbrev pub usual_shape : Shape
usual_shape = record {
  records = 8 ∷ 320 ∷ 404 ∷ 728 ∷ 788 ∷ 1140 ∷ 1280 ∷ 1308 ∷ 1336 ∷ 1688 ∷ 1828 ∷ 1888 ∷ 2240 ∷ 2380 ∷ 2404 ∷ 2728 ∷ [];
  gdr = 320;
  attributes = record { adr = 404; gr_entries = 728 ∷ []; z_entries = [] } ∷ record { adr = 2404; gr_entries = []; z_entries = 2728 ∷ [] } ∷ [];
  r_variables = [];
  z_variables = record { vdr = 788; index = epoch_index; cpr = [] } ∷ record { vdr = 1336; index = b_gse_index; cpr = [] } ∷ record { vdr = 1888; index = label_index; cpr = [] } ∷ [];
  unused = [];
}

abbrev pub usual_owned : List (ℕ × Owner)
usual_owned =
    (8, File) ∷ (320, File)
    ∷ (404, OneAttribute 0) ∷ (728, OneAttribute 0)
    ∷ (2404, OneAttribute 1) ∷ (2728, OneAttribute 1)
    ∷ (788, OneVariable kinds.Z 0) ∷ (1140, OneVariable kinds.Z 0) ∷ (1280, OneVariable kinds.Z 0) ∷ (1308, OneVariable kinds.Z 0)
    ∷ (1336, OneVariable kinds.Z 1) ∷ (1688, OneVariable kinds.Z 1) ∷ (1828, OneVariable kinds.Z 1)
    ∷ (1888, OneVariable kinds.Z 2) ∷ (2240, OneVariable kinds.Z 2) ∷ (2380, OneVariable kinds.Z 2)
    ∷ []

abbrev pub usual_space : Space
usual_space = record { eof = 2786; used = 2778; listed = 0; listed_bytes = 0; unlisted = 0; unlisted_bytes = 0 }

-- ---- the data set

abbrev pub project_data : Attribute
project_data = record { name = codes "Project"; scope = scopes.Global; g = (0, record { type = Char; elems = 4; bytes = codes "ISTP" }) ∷ []; z = [] }

abbrev pub units_data : Attribute
units_data = record { name = codes "UNITS"; scope = scopes.Variable; g = []; z = (1, record { type = Char; elems = 2; bytes = codes "nT" }) ∷ [] }

-- 0, 1000000000 and 2000000000
abbrev pub time0 : List ℕ
time0 = zeros 8

abbrev pub time1 : List ℕ
time1 = zeros 4 ++ 0x3b ∷ 0x9a ∷ 0xca ∷ 0x00 ∷ []

abbrev pub time2 : List ℕ
time2 = zeros 4 ++ 0x77 ∷ 0x35 ∷ 0x94 ∷ 0x00 ∷ []

-- -9223372036854775807
abbrev pub epoch_pad : List ℕ
epoch_pad = 0x80 ∷ zeros 6 ++ 0x01 ∷ []

abbrev pub epoch_data : Variable
epoch_data = record {
  name = codes "Epoch";
  type = TimeTt2000;
  elems = 1;
  dims = [];
  varys = [];
  vary = true;
  sparse = NoRule;
  rle = false;
  blocking = pos 2;
  max_rec = pos 2;
  pad = Some epoch_pad;
  recs = (0, time0) ∷ (1, time1) ∷ (2, time2) ∷ [];
}

abbrev pub field0 : List ℕ
field0 = 0x3f ∷ 0x80 ∷ 0x00 ∷ 0x00 ∷ 0x40 ∷ 0x00 ∷ 0x00 ∷ 0x00 ∷ 0x40 ∷ 0x40 ∷ 0x00 ∷ 0x00 ∷ []

abbrev pub field1 : List ℕ
field1 = 0x00 ∷ 0x00 ∷ 0x00 ∷ 0x00 ∷ 0x80 ∷ 0x00 ∷ 0x00 ∷ 0x00 ∷ 0x7f ∷ 0xc0 ∷ 0x00 ∷ 0x01 ∷ []

abbrev pub field2 : List ℕ
field2 = 0xbf ∷ 0x80 ∷ 0x00 ∷ 0x00 ∷ 0xc0 ∷ 0x00 ∷ 0x00 ∷ 0x00 ∷ 0xc0 ∷ 0x40 ∷ 0x00 ∷ 0x00 ∷ []

abbrev pub b_gse_data : Variable
b_gse_data = record {
  name = codes "B_GSE";
  type = Real4;
  elems = 1;
  dims = 3 ∷ [];
  varys = true ∷ [];
  vary = true;
  sparse = NoRule;
  rle = false;
  blocking = pos 4;
  max_rec = pos 2;
  pad = None;
  recs = (0, field0) ∷ (1, field1) ∷ (2, field2) ∷ [];
}

abbrev pub label_data : Variable
label_data = record {
  name = codes "label";
  type = Char;
  elems = 4;
  dims = 3 ∷ [];
  varys = true ∷ [];
  vary = false;
  sparse = NoRule;
  rle = false;
  blocking = pos 0;
  max_rec = pos 0;
  pad = None;
  recs = (0, codes "Bx  By  Bz  ") ∷ [];
}

abbrev pub usual_data_set : DataSet
usual_data_set = record {
  release = pos 9;
  increment = pos 0;
  encoding = 6;
  majority = Row;
  md5 = true;
  rdims = [];
  attributes = project_data ∷ units_data ∷ [];
  r_variables = [];
  z_variables = epoch_data ∷ b_gse_data ∷ label_data ∷ [];
}

-- ---- its events

abbrev pub usual_head : Head
usual_head = record { version = pos 3; release = pos 9; increment = pos 0; encoding = 6; majority = Row; md5 = true; rdims = []; attrs = 2; rvars = 0; zvars = 3 }

abbrev pub attribute_events : List Event
attribute_events =
    events.Attr 0 (codes "Project") scopes.Global
    ∷ events.Entry entries.G 0 Char 4 (codes "ISTP")
    ∷ events.Attr 1 (codes "UNITS") scopes.Variable
    ∷ events.Entry entries.Z 1 Char 2 (codes "nT")
    ∷ []

abbrev pub epoch_events : List Event
epoch_events =
    events.Var kinds.Z 0 (codes "Epoch") TimeTt2000 1 true [] [] NoRule false (pos 2) (pos 2) true epoch_pad
    ∷ events.Rec 0 TimeTt2000 1 time0
    ∷ events.Rec 1 TimeTt2000 1 time1
    ∷ events.Rec 2 TimeTt2000 1 time2
    ∷ []

abbrev pub b_gse_events : List Event
b_gse_events =
    events.Var kinds.Z 1 (codes "B_GSE") Real4 1 true (3 ∷ []) (true ∷ []) NoRule false (pos 4) (pos 2) false []
    ∷ events.Rec 0 Real4 1 field0
    ∷ events.Rec 1 Real4 1 field1
    ∷ events.Rec 2 Real4 1 field2
    ∷ []

abbrev pub label_events : List Event
label_events =
    events.Var kinds.Z 2 (codes "label") Char 4 false (3 ∷ []) (true ∷ []) NoRule false (pos 0) (pos 0) false []
    ∷ events.Rec 0 Char 4 (codes "Bx  By  Bz  ")
    ∷ []

abbrev pub usual_events : List Event
usual_events = events.Head usual_head ∷ attribute_events ++ epoch_events ++ b_gse_events ++ label_events ++ events.End 2 3 7 ∷ []

abbrev pub usual_dump : List (List ℕ)
usual_dump =
    codes "version 3.9.0 encoding 6 majority row checksum md5 rdims - attributes 2 rvars 0 zvars 3"
    ∷ codes "attribute 0 \"Project\" global"
    ∷ codes "entry g 0 CHAR 4 \"ISTP\""
    ∷ codes "attribute 1 \"UNITS\" variable"
    ∷ codes "entry z 1 CHAR 2 \"nT\""
    ∷ codes "zvar 0 \"Epoch\" TIME_TT2000 1 vary - - sparse none compress none blocking 2 maxrec 2 pad -9223372036854775807"
    ∷ codes "record 0 0"
    ∷ codes "record 1 1000000000"
    ∷ codes "record 2 2000000000"
    ∷ codes "zvar 1 \"B_GSE\" REAL4 1 vary 3 T sparse none compress none blocking 4 maxrec 2 pad -"
    ∷ codes "record 0 3f800000 40000000 40400000"
    ∷ codes "record 1 00000000 80000000 7fc00001"
    ∷ codes "record 2 bf800000 c0000000 c0400000"
    ∷ codes "zvar 2 \"label\" CHAR 4 novary 3 T sparse none compress none blocking 0 maxrec 0 pad -"
    ∷ codes "record 0 \"Bx  \" \"By  \" \"Bz  \""
    ∷ codes "end attributes 2 variables 3 records 7"
    ∷ []

-- ---- a record put in the room that a block has: `put-rec B_GSE 3 00000001 00000002 00000003`

abbrev pub field3 : List ℕ
field3 = 0x00 ∷ 0x00 ∷ 0x00 ∷ 0x01 ∷ 0x00 ∷ 0x00 ∷ 0x00 ∷ 0x02 ∷ 0x00 ∷ 0x00 ∷ 0x00 ∷ 0x03 ∷ []

abbrev pub data_set_after : DataSet
data_set_after = record usual_data_set { z_variables = epoch_data ∷ record b_gse_data { max_rec = pos 3; recs = (0, field0) ∷ (1, field1) ∷ (2, field2) ∷ (3, field3) ∷ [] } ∷ label_data ∷ [] }
