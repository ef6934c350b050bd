-- The nodes of a net, by the layout of its instances.
use Rattle.pt_net.specs.Numbering.{NetNumbering}
use Rattle.mcc_model.specs.Goals.{Nodes}

abbrev pub nodes_of : NetNumbering → Nodes
nodes_of layout = record { places = layout.places; transitions = layout.transitions }
