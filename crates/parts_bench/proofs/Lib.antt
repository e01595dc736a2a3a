mod OwnPlaces
