pub mod LayersTaken
